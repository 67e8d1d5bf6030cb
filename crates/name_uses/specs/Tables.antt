-- The tables of the names of a module.
use Rattle.ir_core.specs.declared.module.Module.{Module}
use Rattle.ir_core.specs.Wrappers.{forked as names_wrapping}
use Rattle.ir_tables.specs.Names.{HasPlaces}
use Rattle.shapes.specs.Uses.{names_used, names_called, names_forked, names_elsewhere}
use Rattle.name_uses.specs.declared.uses.Uses.{Uses}

pub record AreUses (m : Module) (u : Uses) : Type 0 where
  pub used : HasPlaces (names_used m) u.used
  pub called : HasPlaces (names_called m) u.called
  pub forked : HasPlaces (names_forked m) u.forked
  pub wrapping : HasPlaces (names_wrapping m) u.wrapping
  pub elsewhere : HasPlaces (names_elsewhere m) u.elsewhere
