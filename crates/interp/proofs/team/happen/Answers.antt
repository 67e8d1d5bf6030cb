use Rattle.std.proofs.Common.{◌≡◌, subst, rules}
use Rattle.interp.specs.Events.{HasHappened}
use Rattle.interp.proofs.Advance.{goes_or_waits, event_goes, event_traps, err_is, memory_wants}
use Rattle.interp.proofs.team.happen.Goals as goal

pub returns-in-Went : goal.returns-in-Went
returns-in-Went c = event_goes c.args.m.now c.args.thread c.args.sh.now c.event.new.sh c.args.s.now c.event.new.s c.in_ok-event.field-0 c.requires.pending (goes_or_waits c.in_ok-event.field-0 c.in-Went.is) c.in_ok-event.ensures

pub returns-in-Trapped : goal.returns-in-Trapped
returns-in-Trapped c =
    event_traps c.args.m.now c.args.thread c.args.sh.now c.event.new.sh c.args.s.now c.event.new.s c.in-Trapped.field-0 c.requires.pending
    (subst (HasHappened c.args.m.now c.args.thread 0 c.args.sh.now c.event.new.sh c.args.s.now c.event.new.s) c.in-Trapped.is c.in_ok-event.ensures)

pub returns-in_err-event : goal.returns-in_err-event
returns-in_err-event c =
    let m = c.args.m.now in
    let s = c.args.s.now in
    let sh = c.args.sh.now in
    memory_wants m c.args.thread sh c.event.new.sh s c.event.new.s c.from_residual.result (search rules) c.requires.state
    (err_is (HasHappened m c.args.thread 0 sh c.event.new.sh s c.event.new.s) ((c.event.new.sh ≡ sh) × (c.event.new.s ≡ s)) c.event.result c.in_err-event.field-0.0 c.event.ensures c.in_err-event.was)
