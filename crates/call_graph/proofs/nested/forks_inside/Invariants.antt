use Rattle.shapes.specs.Refusals.{IsAnswer}
use Rattle.call_graph.proofs.NestedLaws.{NestedBelow}
use Rattle.call_graph.proofs.nested.forks_inside.Given as goal

abbrev pub invariant-loop-at : goal.invariant-loop-at
invariant-loop-at l = IsAnswer (NestedBelow l.m l.at) l.found
