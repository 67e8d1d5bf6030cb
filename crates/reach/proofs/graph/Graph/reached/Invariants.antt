use Rattle.std.proofs.Common.{◌+◌, length}
use Rattle.reach.specs.Searches.{HasRoom, unmarked}
use Rattle.reach.proofs.Searching.{Searching}
use Rattle.reach.proofs.graph.Graph.reached.Given as goal

abbrev pub invariant-loop-node : goal.invariant-loop-node
invariant-loop-node l = record {
  search : Searching l.self l.roots l.search.marks.items l.search.waiting.items;
  room : HasRoom l.search;
}

abbrev pub decreases-loop-node : goal.decreases-loop-node
decreases-loop-node l = unmarked l.search.marks.items + length l.search.waiting.items
