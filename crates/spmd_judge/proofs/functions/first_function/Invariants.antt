use Rattle.spmd_judge.specs.Lines.{IsLeastLine, Below}
use Rattle.spmd_judge.specs.Judging.{FunctionBreaks}
use Rattle.spmd_judge.proofs.functions.first_function.Given as goal

abbrev pub invariant-loop-at : goal.invariant-loop-at
invariant-loop-at l = IsLeastLine (Below (FunctionBreaks l.m l.rule l.kernel) l.at) l.first
