use Rattle.std.proofs.Common.{◌≡◌, drop, length}
use Rattle.ir_core.specs.Typing.{are_arguments}
use Rattle.ir_names.proofs.calls.are_arguments.Given as goal

-- the answer for the rest is the answer for all
abbrev pub invariant-loop-i : goal.invariant-loop-i
invariant-loop-i l = record {
  even : length l.params ≡ length l.operands;
  rest : are_arguments (drop l.i l.params) (drop l.i l.operands) ≡ are_arguments l.params l.operands;
}
