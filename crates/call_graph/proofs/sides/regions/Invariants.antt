use Rattle.call_graph.specs.Graphs.{ArePlacesOf}
use Rattle.call_graph.proofs.SideLaws.{RegionsBelow}
use Rattle.call_graph.proofs.sides.regions.Given as goal

abbrev pub invariant-loop-at : goal.invariant-loop-at
invariant-loop-at l = ArePlacesOf (RegionsBelow l.m l.at) l.places
