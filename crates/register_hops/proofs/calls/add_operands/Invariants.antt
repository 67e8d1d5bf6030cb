use Rattle.std.proofs.Common.{◌≡◌, ◌++◌, take}
use Rattle.register_hops.specs.Hops.{operand_hops}
use Rattle.register_hops.proofs.calls.add_operands.Given as goal

abbrev pub invariant-loop-place : goal.invariant-loop-place
invariant-loop-place l = l.hops ≡ l.initial.hops ++ operand_hops l.numbering l.at l.to (take l.place l.operands) l.params
