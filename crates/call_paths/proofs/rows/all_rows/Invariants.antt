use Rattle.reach.specs.Chains.{Leads}
use Rattle.reach.specs.Marks.{HopsTo}
use Rattle.call_paths.specs.Known.{AreRowsOf}
use Rattle.call_paths.proofs.rows.all_rows.Given as goal

abbrev pub invariant-loop-from : goal.invariant-loop-from
invariant-loop-from l = AreRowsOf (Leads (HopsTo l.graph)) l.from l.rows
