use Rattle.std.proofs.Common.{◌≡◌, drop}
use Rattle.mem_model.specs.Globals.{with_globals}
use Rattle.first_memory.specs.Blocks.{HasNoGlobals}
use Rattle.first_memory.proofs.blocks.put_globals.Given as goal

abbrev pub invariant-loop-at : goal.invariant-loop-at
invariant-loop-at l = record {
  fresh : HasNoGlobals l.memory l.at;
  same : with_globals l.m l.at (drop l.at l.m.globals) l.memory ≡ with_globals l.m 0 l.m.globals l.fn.memory;
}
