use Rattle.spmd_judge.specs.Lines.{IsLeastLine, Below}
use Rattle.spmd_judge.specs.Judging.{InFunctionOf}
use Rattle.spmd_judge.proofs.walks.first_inst.Given as goal

abbrev pub invariant-loop-function : goal.invariant-loop-function
invariant-loop-function l = IsLeastLine (Below (InFunctionOf l.m l.rule l.kernel) l.function) l.first
