use Rattle.std.proofs.Common.{◌≡◌, ◌≤◌, [], replicate, vec_capacity}
use Rattle.reach.proofs.graph.Graph.new.Given as goal

abbrev pub invariant-loop-node : goal.invariant-loop-node
invariant-loop-node l = record { empty : l.hops.items ≡ replicate l._node []; room : l.nodes ≤ vec_capacity l.hops }
