use Rattle.call_graph.specs.Graphs.{AreMarksOf}
use Rattle.call_paths.specs.Runs.{HasFork}
use Rattle.call_paths.proofs.RowLaws.{Below}
use Rattle.call_paths.proofs.regions.forking.Given as goal

abbrev pub invariant-loop-f : goal.invariant-loop-f
invariant-loop-f l = AreMarksOf (Below (HasFork l.m) l.f-index) l.f-index l.marks
