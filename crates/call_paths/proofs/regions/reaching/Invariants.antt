use Rattle.call_graph.specs.Graphs.{AreMarksOf}
use Rattle.call_paths.specs.Runs.{ReachesRegion}
use Rattle.call_paths.proofs.RowLaws.{Below}
use Rattle.call_paths.proofs.regions.reaching.Given as goal

abbrev pub invariant-loop-row : goal.invariant-loop-row
invariant-loop-row l = AreMarksOf (Below (ReachesRegion l.m) l.row-index) l.row-index l.marks
