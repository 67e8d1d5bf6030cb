use Rattle.std.proofs.Common.{length}
use Rattle.call_graph.specs.Graphs.{IsGraphOf}
use Rattle.call_paths.proofs.RunLaws.{HopsBelow}
use Rattle.call_paths.proofs.running.with_forks.Given as goal

abbrev pub invariant-loop-from : goal.invariant-loop-from
invariant-loop-from l = IsGraphOf (HopsBelow l.m l.from) (length l.m.functions) l.graph
