use Rattle.std.proofs.Common.{◌≡◌, Some, None, sym, ap, ◌∙◌, subst}
use Rattle.mem_model.specs.declared.step.Barrier.TheVariants.{Team as TeamBarrier, Join}
use Rattle.mem_model.specs.declared.phase.Phase.TheVariants.{Woken}
use Rattle.mem_model.specs.Next.{next_in}
use Rattle.thread_state.specs.Seen.{thread_seen}
use Rattle.interp.specs.Events.{Makes}
use Rattle.interp.proofs.Happens.{arrives_event}
use Rattle.interp.proofs.events.change_in.Goals as goal

pub returns-in-Published : goal.returns-in-Published
returns-in-Published c = λ m f rest i e is long frames h midst.
    let t = thread_seen m c.args.s.now in
    subst (λ v. Makes m c.args.thread c.args.sh.now c.arrive_in.new.sh c.args.s.now c.arrive_in.new.s v)
    (arrives_event TeamBarrier (Some Woken) e (sym (ap (next_in m t f rest (Some i)) c.in-Published.is) ∙ h))
    (c.arrive_in.ensures m f rest is long tt frames)

pub returns-in-Woken : goal.returns-in-Woken
returns-in-Woken c = λ m f rest i e is long frames h midst.
    let t = thread_seen m c.args.s.now in
    subst (λ v. Makes m c.args.thread c.args.sh.now c.arrive.new.sh c.args.s.now c.arrive.new.s v)
    (arrives_event TeamBarrier None e (sym (ap (next_in m t f rest (Some i)) c.in-Woken.is) ∙ h))
    (c.arrive.ensures m f rest is frames)

pub returns-in-HasLeft : goal.returns-in-HasLeft
returns-in-HasLeft c = λ m f rest i e is long frames h midst.
    let t = thread_seen m c.args.s.now in
    subst (λ v. Makes m c.args.thread c.args.sh.now c.arrive-in-HasLeft.new.sh c.args.s.now c.arrive-in-HasLeft.new.s v)
    (arrives_event Join None e (sym (ap (next_in m t f rest (Some i)) c.in-HasLeft.is) ∙ h))
    (c.arrive-in-HasLeft.ensures m f rest is frames)

pub returns-in-Loops : goal.returns-in-Loops
returns-in-Loops c = λ m f rest i e is long frames h midst.
    c.change_in_loop.ensures m f rest i.result e is long frames (sym (ap (next_in m (thread_seen m c.args.s.now) f rest (Some i)) c.in-Loops.is) ∙ h)
