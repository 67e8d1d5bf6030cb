use Rattle.std.proofs.Common.{◌≡◌, ◌++◌, take}
use Rattle.std.specs.List.{flat_map}
use Rattle.register_hops.specs.Hops.{edge_hops}
use Rattle.register_hops.proofs.hops.add_edges.Given as goal

abbrev pub invariant-loop-edge : goal.invariant-loop-edge
invariant-loop-edge l = l.hops ≡ l.initial.hops ++ flat_map (edge_hops l.numbering l.at l.given) (take l.edge-index l.edges)
