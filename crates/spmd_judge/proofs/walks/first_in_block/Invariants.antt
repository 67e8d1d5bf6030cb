use Rattle.spmd_judge.specs.Lines.{IsLeastLine, Below}
use Rattle.spmd_judge.specs.Judging.{place_of, BreaksAt}
use Rattle.spmd_judge.proofs.walks.first_in_block.Given as goal

abbrev pub invariant-loop-index : goal.invariant-loop-index
invariant-loop-index l = IsLeastLine (Below (λ index line. BreaksAt l.m l.rule (place_of l.function l.block index) line) l.index) l.first
