use Rattle.std.proofs.Common.{◌≡◌, List, ◌∷◌, Some, ap, sym, ◌∙◌, subst}
use Rattle.std.specs.Prelude.{if◌then◌else◌}
use Rattle.mem_model.specs.declared.step.Barrier.TheVariants.{Team as TeamBarrier}
use Rattle.mem_model.specs.declared.phase.Phase.TheVariants.{Gathered}
use Rattle.mem_model.specs.declared.memory.Ptr.{Ptr}
use Rattle.mem_model.specs.Regions.{captured}
use Rattle.mem_model.specs.Steps.{Arrives, Forks, NextStep, Pending, with_found}
use Rattle.thread_state.specs.Seen.{thread_seen}
use Rattle.interp.specs.Events.{Makes}
use Rattle.interp.proofs.Happens.{arrives_event}
use Rattle.interp.proofs.events.fork.Goals as goal

pub returns-then-s : goal.returns-then-s
returns-then-s c = λ m x f rest args e is long frames h.
    let fork = c.args.fork in
    let r = captured (f ∷ rest) c.args.words fork.count in
    let goes : List Ptr → NextStep = λ ps. Pending (Forks fork.function fork.wrapper ps) in
    let waits : Pending (Arrives TeamBarrier (Some Gathered)) ≡ Pending e = sym (ap (λ b. if b then Pending (Arrives TeamBarrier (Some Gathered)) else with_found r goes) c.if-s.true) ∙ h in
    subst (λ v. Makes m c.args.thread c.args.sh.now c.arrive_in.new.sh c.args.s.now c.arrive_in.new.s v)
    (arrives_event TeamBarrier (Some Gathered) e waits)
    (c.arrive_in.ensures m f rest is long (is.3 c.if-s.true) frames)
