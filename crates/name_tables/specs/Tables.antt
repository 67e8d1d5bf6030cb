-- A function with its names in a table, and symbols.
use Rattle.std.specs.Prelude.{◌≡◌, ℕ, List, map}
use Rattle.ir_core.specs.Given.{Symbol as SymbolGiven, Variable as VariableGiven, Routine as RoutineGiven, LocalName, local_names}
use Rattle.ir_tables.specs.Names.{HasPlaces}
use Rattle.name_tables.specs.declared.tables.Symbol.{Symbol}
use Rattle.name_tables.specs.declared.tables.Symbol.TheVariants.{Variable, Routine}
use Rattle.name_tables.specs.declared.locals.Scope.TheInside.{Inside as ScopeInside}
use Rattle.name_tables.specs.Kept.{all_seen, all_kept}

abbrev pub local_name : LocalName → List ℕ
local_name n = n.name

abbrev pub symbol_seen : Symbol → SymbolGiven
symbol_seen Variable = VariableGiven
symbol_seen (Routine f) = RoutineGiven f.now

-- the names are those of the function
pub record AreNames (s : ScopeInside) : Type 0 where
  pub places : HasPlaces (map local_name (local_names s.function.now)) s.places
  pub names : all_seen s.names ≡ all_kept (local_names s.function.now)
