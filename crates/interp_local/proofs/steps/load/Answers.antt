use Rattle.std.proofs.Common.{subst}
use Rattle.mem_model.specs.Next.{loads}
use Rattle.thread_state.specs.Seen.{thread_seen}
use Rattle.interp_local.specs.Steps.{IsOwn}
use Rattle.interp_local.proofs.steps.load.Goals as goal

pub returns-in-Stack : goal.returns-in-Stack
returns-in-Stack c = λ m x f rest k.
    subst (λ w. IsOwn m c.args.s.now c.load_own.new.s (loads (thread_seen m c.args.s.now) f rest x c.args.cell w) c.load_own.result) c.in-Stack.ensures (c.load_own.ensures m x f rest k)
