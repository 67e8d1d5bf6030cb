use Rattle.std.proofs.Common.{sym, subst, ◌∙◌, ap}
use Rattle.mem_model.specs.declared.memory.BlockName.TheVariants.{Arg, Global}
use Rattle.mem_model.specs.Memory.{Memory, no_blocks}
use Rattle.mem_model.specs.Launching.{with_buffers}
use Rattle.first_memory.specs.Blocks.{HasNoArgs, HasNoGlobals}
use Rattle.first_memory.proofs.Fresh.{none_yet, buffers_keep}
use Rattle.first_memory.proofs.blocks.first_memory.Goals as goal

pub put_buffers-requires : goal.put_buffers-requires
put_buffers-requires c = record { fresh = subst (λ (m : Memory). HasNoArgs m 0) (sym c.new-memory.ensures) (λ n l. none_yet (Arg n)) }

pub put_globals-requires : goal.put_globals-requires
put_globals-requires c = record {
  fresh = subst (λ (m : Memory). HasNoGlobals m 0) (sym (c.in_ok-put_buffers.ensures ∙ ap (λ (m : Memory). with_buffers 0 c.as_slice.result.now m) c.new-memory.ensures)) (buffers_keep no_blocks 0 c.as_slice.result.now (λ n l. none_yet (Global n)));
}
