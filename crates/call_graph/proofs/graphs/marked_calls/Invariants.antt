use Rattle.std.proofs.Common.{length}
use Rattle.call_graph.specs.Graphs.{IsGraphOf}
use Rattle.call_graph.proofs.GraphLaws.{CallsBelow}
use Rattle.call_graph.proofs.graphs.marked_calls.Given as goal

abbrev pub invariant-loop-from : goal.invariant-loop-from
invariant-loop-from l = IsGraphOf (CallsBelow l.m l.from) (length l.m.functions) l.graph
