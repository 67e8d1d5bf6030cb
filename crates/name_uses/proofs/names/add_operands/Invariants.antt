use Rattle.std.proofs.Common.{◌≡◌, ◌++◌, take}
use Rattle.std.specs.List.{flat_map}
use Rattle.ir_tables.specs.Names.{names_seen}
use Rattle.shapes.specs.Uses.{operand_names}
use Rattle.name_uses.proofs.names.add_operands.Given as goal

abbrev pub invariant-loop-operand : goal.invariant-loop-operand
invariant-loop-operand l = names_seen l.names ≡ names_seen l.initial.names ++ flat_map operand_names (take l.operand-index l.operands)
