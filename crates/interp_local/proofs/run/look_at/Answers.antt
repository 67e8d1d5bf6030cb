use Rattle.std.proofs.Common.{sym, subst}
use Rattle.thread_state.specs.Seen.{thread_seen}
use Rattle.interp_local.specs.Actions.{arguments, acted}
use Rattle.interp_local.specs.Runs.{Tells}
use Rattle.interp_local.proofs.run.look_at.Goals as goal

pub returns-in-Forks : goal.returns-in-Forks
returns-in-Forks c = λ f rest frames.
    let m = c.args.m.now in
    let i = c.args.inst.now in
    subst (λ a. Tells (acted m (thread_seen m c.args.s.now) f rest i.result (arguments i.kind) a) c.look_fork.result) (sym c.in-Forks.is)
    (c.look_fork.ensures m f rest i.result (arguments i.kind) c.requires.thread frames)
