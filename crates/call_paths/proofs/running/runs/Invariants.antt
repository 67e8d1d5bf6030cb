use Rattle.call_paths.specs.Known.{AreRowsOf}
use Rattle.call_paths.specs.Runs.{Runs}
use Rattle.call_paths.proofs.running.runs.Given as goal

abbrev pub invariant-loop-at : goal.invariant-loop-at
invariant-loop-at l = AreRowsOf (Runs l.m) l.at l.rows
