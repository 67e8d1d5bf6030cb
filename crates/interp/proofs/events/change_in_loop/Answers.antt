use Rattle.std.proofs.Common.{◌≡◌, Some, None, sym, ap, ◌∙◌, subst}
use Rattle.mem_model.specs.declared.step.Barrier.TheVariants.{Team as TeamBarrier}
use Rattle.mem_model.specs.declared.phase.Phase.TheVariants.{Loops}
use Rattle.mem_model.specs.declared.phase.LoopPoint.TheVariants.{Asks, HasRested}
use Rattle.mem_model.specs.Work.{next_loop}
use Rattle.thread_state.specs.Seen.{thread_seen}
use Rattle.interp.specs.Events.{Makes}
use Rattle.interp.proofs.Happens.{arrives_event, asks_event}
use Rattle.interp.proofs.events.change_in_loop.Goals as goal

pub returns-in-Sleeps : goal.returns-in-Sleeps
returns-in-Sleeps c = λ m f rest x e is long frames h.
    let t = thread_seen m c.args.s.now in
    subst (λ v. Makes m c.args.thread c.args.sh.now c.arrive_in.new.sh c.args.s.now c.arrive_in.new.s v)
    (arrives_event TeamBarrier (Some (Loops Asks)) e (sym (ap (next_loop m t f rest x) c.in-Sleeps.is) ∙ h))
    (c.arrive_in.ensures m f rest is long tt frames)

pub returns-in-Rests : goal.returns-in-Rests
returns-in-Rests c = λ m f rest x e is long frames h.
    let t = thread_seen m c.args.s.now in
    subst (λ v. Makes m c.args.thread c.args.sh.now c.arrive_in-in-Rests.new.sh c.args.s.now c.arrive_in-in-Rests.new.s v)
    (arrives_event TeamBarrier (Some (Loops HasRested)) e (sym (ap (next_loop m t f rest x) c.in-Rests.is) ∙ h))
    (c.arrive_in-in-Rests.ensures m f rest is long tt frames)

pub returns-in-Asks : goal.returns-in-Asks
returns-in-Asks c = λ m f rest x e is long frames h.
    let t = thread_seen m c.args.s.now in
    subst (λ v. Makes m c.args.thread c.args.sh.now c.args.sh.now c.args.s.now c.tell.new.s v)
    (asks_event e (sym (ap (next_loop m t f rest x) c.in-Asks.is) ∙ h))
    (c.tell.ensures m c.args.thread f rest is long (c.requires.phase ∙ ap Loops c.in-Asks.is) frames)
