use Rattle.std.proofs.Common.{take}
use Rattle.call_graph.specs.Graphs.{IsGraphOf}
use Rattle.register_hops.specs.Numbered.{HopsBetween}
use Rattle.register_hops.proofs.search.graph_of.Given as goal

abbrev pub invariant-loop-hop : goal.invariant-loop-hop
invariant-loop-hop l = IsGraphOf (HopsBetween l.numbering (take l.hop-index l.hops)) l.count l.graph
