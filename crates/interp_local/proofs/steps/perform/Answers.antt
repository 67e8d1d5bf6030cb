use Rattle.std.proofs.Common.{◌∷◌, Some, sym, subst}
use Rattle.thread_state.specs.Seen.{thread_seen}
use Rattle.interp_local.specs.Actions.{arguments, acted, TakesRoom}
use Rattle.interp_local.specs.Steps.{IsTried}
use Rattle.mem_model.specs.declared.step.Barrier.TheVariants.{Team as TeamBarrier}
use Rattle.mem_model.specs.declared.phase.Phase.TheVariants.{Gathered}
use Rattle.mem_model.specs.Regions.{captured}
use Rattle.mem_model.specs.Steps.{Arrives, Forks as ForksEvent}
use Rattle.interp_local.specs.declared.actions.Action.TheVariants.{Forks}
use Rattle.interp_local.proofs.Forks.{never_local}
use Rattle.interp_local.proofs.Midst.{told_own}
use Rattle.interp_local.proofs.steps.perform.Goals as goal

pub returns-in-Allocates : goal.returns-in-Allocates
returns-in-Allocates c = λ f rest frames.
    let m = c.args.m.now in
    let s = c.args.s.now in
    let i = c.args.inst.now in
    subst (λ a. IsTried (TakesRoom a) m s c.allocate.new.s (acted m (thread_seen m s) f rest i.result (arguments i.kind) a) c.allocate.result) (sym c.in-Allocates.is)
    (c.allocate.ensures m i.result f rest (record { is = c.requires.thread; frames = frames; place = c.result_place-register.ensures }))

pub returns-in-Forks : goal.returns-in-Forks
returns-in-Forks c = λ f rest frames.
    let m = c.args.m.now in
    let s = c.args.s.now in
    let t = thread_seen m s in
    let i = c.args.inst.now in
    let fork = c.in-Forks.fork in
    let words = c.in-Forks.words in
    let nx = acted m t f rest i.result (arguments i.kind) (Forks fork words) in
    let tells = c.look_fork.ensures m f rest i.result (arguments i.kind) c.requires.thread frames in
    let never = never_local (Arrives TeamBarrier (Some Gathered)) (λ ps. ForksEvent fork.function fork.wrapper ps) t.enters (captured (f ∷ rest) words fork.count) in
    subst (λ a. IsTried (TakesRoom a) m s s (acted m t f rest i.result (arguments i.kind) a) c.refused.result) (sym c.in-Forks.is)
    (subst (IsTried (TakesRoom (Forks fork words)) m s s nx) (sym c.refused.ensures) (told_own (TakesRoom (Forks fork words)) m s nx c.look_fork.result c.requires.thread never tells))
