use Rattle.std.proofs.Common.{sym, ap, ◌∙◌, subst}
use Rattle.thread_state.specs.Seen.{thread_seen}
use Rattle.interp_local.specs.Actions.{acted, IsLong}
use Rattle.interp.specs.Events.{Makes, IsMadeOrSame}
use Rattle.interp.proofs.Happens.{prints_event, makes_event, asks_event}
use Rattle.interp.proofs.events.happen.Goals as goal

pub returns-in-Prints : goal.returns-in-Prints
returns-in-Prints c = λ x f rest args e here long h.
    let m = c.args.m.now in
    let t = thread_seen m c.args.s.now in
    subst (λ v. IsMadeOrSame m c.args.here.thread c.args.sh.now c.print.new.sh c.args.s.now c.print.new.s v c.print.result)
    (prints_event c.in-Prints.number e (sym (ap (acted m t f rest x args) c.in-Prints.is) ∙ h))
    (c.print.ensures m c.args.here.thread f rest here.knows.is here.knows.frames)

pub returns-in-Makes : goal.returns-in-Makes
returns-in-Makes c = λ x f rest args e here long h.
    let m = c.args.m.now in
    let t = thread_seen m c.args.s.now in
    subst (λ v. IsMadeOrSame m c.args.here.thread c.args.sh.now c.make.new.sh c.args.s.now c.make.new.s v c.make.result)
    (makes_event c.in-Makes.size e (sym (ap (acted m t f rest x args) c.in-Makes.is) ∙ h))
    (c.make.ensures m x f rest here)

pub returns-in-Asks : goal.returns-in-Asks
returns-in-Asks c = λ x f rest args e here long h.
    let m = c.args.m.now in
    let t = thread_seen m c.args.s.now in
    subst (λ v. Makes m c.args.here.thread c.args.sh.now c.ask.new.sh c.args.s.now c.ask.new.s v)
    (asks_event e (sym (ap (acted m t f rest x args) c.in-Asks.is) ∙ h))
    (c.ask.ensures x f rest here)

pub returns-in_default : goal.returns-in_default
returns-in_default c = λ x f rest args e here long h. c.change.ensures c.args.m.now x f rest args e here h

pub returns-in-Forks : goal.returns-in-Forks
returns-in-Forks c = λ x f rest args e here long h.
    let m = c.args.m.now in
    let is = c.in-Forks.is in
    c.fork.ensures m x f rest args e here.knows.is (long (subst IsLong (sym is) tt)) here.knows.frames (sym (ap (acted m (thread_seen m c.args.s.now) f rest x args) is) ∙ h)
