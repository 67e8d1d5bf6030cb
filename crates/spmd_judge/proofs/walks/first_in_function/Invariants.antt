use Rattle.spmd_judge.specs.Lines.{IsLeastLine, Below}
use Rattle.spmd_judge.specs.Judging.{InBlock}
use Rattle.spmd_judge.proofs.walks.first_in_function.Given as goal

abbrev pub invariant-loop-block : goal.invariant-loop-block
invariant-loop-block l = IsLeastLine (Below (InBlock l.m l.rule l.function) l.block) l.first
