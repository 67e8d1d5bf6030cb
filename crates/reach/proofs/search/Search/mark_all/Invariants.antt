use Rattle.std.proofs.Common.{take}
use Rattle.reach.specs.Searches.{Spreads, HasRoom}
use Rattle.reach.proofs.search.Search.mark_all.Given as goal

abbrev pub invariant-loop-node : goal.invariant-loop-node
invariant-loop-node l = record {
  spread : Spreads l.fn.self (take l.node-index l.nodes) l.self;
  room : HasRoom l.self;
}
