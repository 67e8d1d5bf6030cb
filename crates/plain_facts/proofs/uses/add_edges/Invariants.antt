use Rattle.std.proofs.Common.{◌≡◌, ◌++◌, take}
use Rattle.std.specs.List.{flat_map}
use Rattle.plain_facts.specs.Uses.{edge_uses}
use Rattle.plain_facts.proofs.uses.add_edges.Given as goal

abbrev pub invariant-loop-edge : goal.invariant-loop-edge
invariant-loop-edge l = l.uses ≡ l.initial.uses ++ flat_map (edge_uses l.numbering l.at l.release) (take l.edge-index l.edges)
