use Rattle.std.proofs.Common.{None, sym, ap, ◌∙◌, subst}
use Rattle.thread_state.specs.Seen.{thread_seen}
use Rattle.interp_local.specs.Actions.{acted}
use Rattle.interp.specs.Events.{Makes}
use Rattle.interp.proofs.Happens.{load_event, store_event, update_event, deinit_event, arrives_event, release_event}
use Rattle.interp.proofs.Quiet.{quiet}
use Rattle.interp.proofs.events.change.Goals as goal

pub returns-in-Loads : goal.returns-in-Loads
returns-in-Loads c = λ m x f rest args e here h.
    let t = thread_seen m c.args.s.now in
    subst (λ v. Makes m c.args.here.thread c.args.sh.now c.load.new.sh c.args.s.now c.load.new.s v)
    (load_event t f rest x c.in-Loads.cell c.in-Loads.at e (sym (ap (acted m t f rest x args) c.in-Loads.is) ∙ h))
    (c.load.ensures m x f rest here)

pub returns-in-Stores : goal.returns-in-Stores
returns-in-Stores c = λ m x f rest args e here h.
    let t = thread_seen m c.args.s.now in
    subst (λ v. Makes m c.args.here.thread c.args.sh.now c.store.new.sh c.args.s.now c.store.new.s v)
    (store_event t f rest c.in-Stores.cell c.in-Stores.word c.in-Stores.at e (sym (ap (acted m t f rest x args) c.in-Stores.is) ∙ h))
    (c.store.ensures m x f rest here)

pub returns-in-Deinit : goal.returns-in-Deinit
returns-in-Deinit c = λ m x f rest args e here h.
    let t = thread_seen m c.args.s.now in
    subst (λ v. Makes m c.args.here.thread c.args.sh.now c.deinit.new.sh c.args.s.now c.deinit.new.s v)
    (deinit_event e (sym (ap (acted m t f rest x args) c.in-Deinit.is) ∙ h))
    (c.deinit.ensures m c.args.here.thread x f rest here.knows.is here.knows.frames)

pub returns-in-Updates : goal.returns-in-Updates
returns-in-Updates c = λ m x f rest args e here h.
    let t = thread_seen m c.args.s.now in
    let change = c.in-Updates.change in
    subst (λ v. Makes m c.args.here.thread c.args.sh.now c.update.new.sh c.args.s.now c.update.new.s v)
    (update_event t f rest x change.width change.op change.number c.in-Updates.at e (sym (ap (acted m t f rest x args) c.in-Updates.is) ∙ h))
    (c.update.ensures m x f rest here)

pub returns-in-Arrives : goal.returns-in-Arrives
returns-in-Arrives c = λ m x f rest args e here h.
    let t = thread_seen m c.args.s.now in
    subst (λ v. Makes m c.args.here.thread c.args.sh.now c.arrive.new.sh c.args.s.now c.arrive.new.s v)
    (arrives_event c.in-Arrives.kind None e (sym (ap (acted m t f rest x args) c.in-Arrives.is) ∙ h))
    (c.arrive.ensures m f rest here.knows.is here.knows.frames)

pub returns-in-Releases : goal.returns-in-Releases
returns-in-Releases c = λ m x f rest args e here h.
    let t = thread_seen m c.args.s.now in
    subst (λ v. Makes m c.args.here.thread c.args.sh.now c.release.new.sh c.args.s.now c.release.new.s v)
    (release_event c.in-Releases.size c.in-Releases.at e (sym (ap (acted m t f rest x args) c.in-Releases.is) ∙ h))
    (c.release.ensures m x f rest here)

pub returns-in_default : goal.returns-in_default
returns-in_default c = λ m x f rest args e here h.
    let d = c.in_default in
    absurd (quiet m (thread_seen m c.args.s.now) f rest x args c.args.action e d.not-Loads d.not-Stores d.not-Updates d.not-Deinit d.not-Arrives d.not-Prints d.not-Makes d.not-Releases d.not-Asks d.not-Forks d.not-Returns h)
