use Rattle.std.proofs.Common.{◌≡◌, map, take}
use Rattle.register_hops.specs.Numbered.{node_number}
use Rattle.register_hops.proofs.search.numbers_of.Given as goal

abbrev pub invariant-loop-node : goal.invariant-loop-node
invariant-loop-node l = l.numbers ≡ map (node_number l.numbering) (take l.node-index l.nodes)
