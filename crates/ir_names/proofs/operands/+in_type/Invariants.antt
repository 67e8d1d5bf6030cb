use Rattle.std.proofs.Common.{◌≡◌, take}
use Rattle.std.specs.List.{flat_map}
use Rattle.ir_core.specs.Typing.{in_type}
use Rattle.name_tables.specs.Least.{least_of}
use Rattle.ir_names.proofs.operands.+in_type.Given as goal

abbrev pub invariant-in_types-loop-ty : goal.invariant-in_types-loop-ty
invariant-in_types-loop-ty l = l.found ≡ least_of (flat_map (in_type l.tables) (take l.ty-index l.tys))
