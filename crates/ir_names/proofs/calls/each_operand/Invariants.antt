use Rattle.std.proofs.Common.{◌≡◌, take}
use Rattle.std.specs.List.{flat_map}
use Rattle.ir_core.specs.Typing.{operand_in, scope_of}
use Rattle.name_tables.specs.Least.{least_of}
use Rattle.ir_names.proofs.calls.each_operand.Given as goal

abbrev pub invariant-loop-v : goal.invariant-loop-v
invariant-loop-v l = l.found ≡ least_of (flat_map (operand_in l.in_fork (scope_of l.s.0 l.s.1)) (take l.v-index l.operands))
