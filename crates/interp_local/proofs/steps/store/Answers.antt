use Rattle.std.proofs.Common.{subst}
use Rattle.mem_model.specs.Next.{stores}
use Rattle.thread_state.specs.Seen.{thread_seen}
use Rattle.interp_local.specs.Steps.{IsOwn}
use Rattle.interp_local.proofs.steps.store.Goals as goal

pub returns-in-Stack : goal.returns-in-Stack
returns-in-Stack c = λ m f rest is frames.
    subst (λ w. IsOwn m c.args.s.now c.store_own.new.s (stores (thread_seen m c.args.s.now) f rest c.args.cell c.args.word w) c.store_own.result) c.in-Stack.ensures (c.store_own.ensures m f rest is frames)
