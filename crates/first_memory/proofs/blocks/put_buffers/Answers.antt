use Rattle.std.proofs.Common.{◌+◌, sym, subst}
use Rattle.mem_model.specs.Memory.{Memory}
use Rattle.first_memory.specs.Blocks.{HasNoArgs}
use Rattle.first_memory.proofs.Puts.{buffer_after, next_buffer}
use Rattle.first_memory.proofs.blocks.put_buffers.Goals as goal

pub loop-at-preserved : goal.loop-at-preserved
loop-at-preserved c =
    let i = c.loop-at.at in
    let old = c.loop-at.memory in
    let a = c.index-args-at.result in
    let put = c.in_ok-put_buffer.ensures in
    record {
      fresh = subst (λ (m : Memory). HasNoArgs m (i + 1)) (sym put) (buffer_after i a old c.loop-at.invariant.fresh);
      same = next_buffer i c.args.args.now a old c.put_buffer.new.memory _ c.loop-at-test.true c.index-args-at.is put c.loop-at.invariant.same;
    }
