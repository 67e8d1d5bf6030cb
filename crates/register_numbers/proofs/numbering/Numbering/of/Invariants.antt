use Rattle.register_numbers.proofs.Apart.{AreStartsBelow}
use Rattle.register_numbers.proofs.numbering.Numbering.of.Given as goal

abbrev pub invariant-loop-at : goal.invariant-loop-at
invariant-loop-at l = AreStartsBelow l.indexed l.at l.starts l.total
