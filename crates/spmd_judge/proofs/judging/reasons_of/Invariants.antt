use Rattle.spmd_judge.specs.Verdicts.{AreReasonsBelow, reasons_seen}
use Rattle.spmd_judge.proofs.judging.reasons_of.Given as goal

abbrev pub invariant-loop-rule : goal.invariant-loop-rule
invariant-loop-rule l = AreReasonsBelow l.m l.kernel l.rule (reasons_seen l.reasons)
