use Rattle.call_graph.specs.Graphs.{ArePlacesOf}
use Rattle.call_graph.proofs.SideLaws.{KernelsBelow}
use Rattle.call_graph.proofs.sides.kernels.Given as goal

abbrev pub invariant-loop-at : goal.invariant-loop-at
invariant-loop-at l = ArePlacesOf (KernelsBelow l.m l.at) l.places
