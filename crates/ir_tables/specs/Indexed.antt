-- A module with its names in tables.
use Rattle.std.specs.Prelude.{◌≡◌, ℕ, ◌<◌, ◌^◌, length, map, Option, Some, None}
use Rattle.ir_core.specs.Places.{function_name, global_name, register_names}
use Rattle.ir_core.specs.declared.module.Module.{Module}
use Rattle.ir_tables.specs.Names.{type_name, HasPlaces, AreAllLocals}
use Rattle.ir_tables.specs.Table.{IsTable}
use Rattle.ir_tables.specs.declared.tables.Tables.{Tables}

-- the tables are those of the module
pub record AreTables (m : Module) (t : Tables) : Type 0 where
  pub layouts : IsTable m.types t.layouts
  pub types : HasPlaces (map type_name m.types) t.types
  pub globals : HasPlaces (map global_name m.globals) t.globals
  pub functions : HasPlaces (map function_name m.functions) t.functions
  pub locals : AreAllLocals m.functions t.locals

-- no function has more registers than can be counted in 64 bits
abbrev pub CanBeCounted : Module → Type 0
CanBeCounted m = (f : ℕ) → length (register_names m f) < 2 ^ 64

-- the tables are those of the module, or there are none
abbrev pub MayHaveTables : Module → Option Tables → Type 0
MayHaveTables m None = CanBeCounted m
MayHaveTables m (Some t) = AreTables m t
