use Rattle.std.proofs.Common.{◌≡◌, drop}
use Rattle.mem_model.specs.Launching.{with_buffers}
use Rattle.first_memory.specs.Blocks.{HasNoArgs}
use Rattle.first_memory.proofs.blocks.put_buffers.Given as goal

abbrev pub invariant-loop-at : goal.invariant-loop-at
invariant-loop-at l = record {
  fresh : HasNoArgs l.memory l.at;
  same : with_buffers l.at (drop l.at l.args) l.memory ≡ with_buffers 0 l.args l.fn.memory;
}
