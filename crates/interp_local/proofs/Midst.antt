-- Steps in the midst of an instruction, by the phase of the innermost call.
use Rattle.std.proofs.Common.{◌≡◌, ℕ, zero, suc, List, [], ◌∷◌, Option, Some, None, Result, Ok, Err, refl, sym, ap, ◌∙◌, subst}
use Rattle.ir_core.specs.declared.instructions.Inst.{Inst}
use Rattle.ir_core.specs.declared.module.Module.{Module}
use Rattle.ir_core.specs.Places.{Name}
use Rattle.mem_model.specs.declared.step.Trap.{Trap}
use Rattle.mem_model.specs.declared.phase.Phase.{Phase}
use Rattle.mem_model.specs.declared.phase.Phase.TheVariants.{Begins, Published, Woken, Gathered, InRegion, HasLeft, Loops}
use Rattle.mem_model.specs.declared.phase.LoopPoint.{LoopPoint}
use Rattle.mem_model.specs.declared.phase.LoopPoint.TheVariants.{Sleeps, Asks, Considers, Works, HasWorked, EndsRegion, HasEnded, Rests, HasRested}
use Rattle.mem_model.specs.Thread.{Frame, ThreadState, outside_region}
use Rattle.mem_model.specs.Next.{NextStep, Local, goes_in, next_in}
use Rattle.mem_model.specs.Work.{next_loop}
use Rattle.thread_state.specs.declared.state.ThreadState.{ThreadState as ThreadData}
use Rattle.thread_state.specs.Seen.{thread_seen, IsThread, IsSeen}
use Rattle.thread_state.specs.Moves.{Moves, on_innermost, code_in}
use Rattle.interp_local.specs.declared.steps.Own.{Own}
use Rattle.interp_local.specs.declared.steps.Own.TheVariants.{Went, Event, Done}
use Rattle.interp_local.specs.Steps.{IsOwn, IsTried}
use Rattle.interp_local.specs.Runs.{Tells, tried}
use Rattle.interp_local.proofs.Moved.{moved}
use Rattle.interp_local.specs.Phases.{IsInMidst, Turns, wrapper_called}

-- stays at its instruction in another phase, and is outside of a region
pub stayed_outside : (m : Module) (old mid new : ThreadData) (p : Phase) (f : Frame) (rest : List Frame) → Moves (code_in p) m old mid
    → (IsThread m mid → IsSeen m new (record (thread_seen m mid) { answers = outside_region (thread_seen m mid) })) → (thread_seen m old).frames ≡ f ∷ rest
    → IsSeen m new (record (goes_in (thread_seen m old) f rest p) { answers = outside_region (thread_seen m old) })
stayed_outside m old mid new p f rest moves ends frames =
    let q = ends moves.0 in
    let s = moved m old mid (code_in p) f rest moves frames in
    (q.0, q.1 ∙ ap (λ (t : ThreadState). record t { answers = outside_region t }) s.1)

-- an event and a trap that are told leave the state as it is
pub told : (m : Module) (s : ThreadData) (nx : NextStep) (own : Own) → Tells nx (Ok own) → (own ≡ Went → ⊥) → IsOwn m s s nx (Ok own)
told m s nx Went h other = absurd (other refl)
told m s (NextStep.Pending e) Event h other = refl
told m s NextStep.Done Done h other = refl
told m s (NextStep.Local u) Event h other = absurd h
told m s NextStep.Done Event h other = absurd h
told m s (NextStep.Trapped x) Event h other = absurd h
told m s (NextStep.Local u) Done h other = absurd h
told m s (NextStep.Pending e) Done h other = absurd h
told m s (NextStep.Trapped x) Done h other = absurd h

pub told_trap : (m : Module) (s : ThreadData) (nx : NextStep) (x : Trap) → IsThread m s → Tells nx (Err x) → IsOwn m s s nx (Err x)
told_trap m s (NextStep.Trapped y) x is h = (h, (is, refl))
told_trap m s (NextStep.Local u) x is h = absurd h
told_trap m s (NextStep.Pending e) x is h = absurd h
told_trap m s NextStep.Done x is h = absurd h

pub told_own : (W : Type 0) (m : Module) (s : ThreadData) (nx : NextStep) (r : Result Own Trap) → IsThread m s → (Tells nx (Ok Went) → ⊥) → Tells nx r → IsTried W m s s nx (tried r)
told_own W m s nx (Ok Went) is never h = absurd (never h)
told_own W m s nx (Ok Event) is never h = told m s nx Event h (λ e. let f : ⊥ = cc in f)
told_own W m s nx (Ok Done) is never h = told m s nx Done h (λ e. let f : ⊥ = cc in f)
told_own W m s nx (Err x) is never h = told_trap m s nx x is h

-- ---- the runtime's own loop

pub turns_at : (m : Module) (t : ThreadState) (f : Frame) (rest : List Frame) (x : Option Name) (point : LoopPoint) → wrapper_called point ≡ None → Tells (next_loop m t f rest x point) (Ok Went) → Turns point
turns_at m t f rest x Sleeps e h = h
turns_at m t f rest x Asks e h = h
turns_at m t f rest x Works e h = h
turns_at m t f rest x Rests e h = h
turns_at m t f rest x (Considers zero (Some w)) e h = let g : ⊥ = cc in absurd g
turns_at m t f rest x (Considers zero None) e h = tt
turns_at m t f rest x (Considers (suc n) work) e h = tt
turns_at m t f rest x HasWorked e h = tt
turns_at m t f rest x EndsRegion e h = tt
turns_at m t f rest x HasEnded e h = tt
turns_at m t f rest x HasRested e h = tt

-- every own step in the midst of an instruction is one of the loop
pub loop_alone : (m : Module) (t : ThreadState) (f : Frame) (rest : List Frame) (i : Inst) (p : Phase) → IsInMidst p → ((point : LoopPoint) → p ≡ Loops point → ⊥) → Tells (next_in m t f rest (Some i) p) (Ok Went) → ⊥
loop_alone m t f rest i Begins midst other h = midst
loop_alone m t f rest i Published midst other h = h
loop_alone m t f rest i Woken midst other h = h
loop_alone m t f rest i Gathered midst other h = midst
loop_alone m t f rest i InRegion midst other h = h
loop_alone m t f rest i HasLeft midst other h = h
loop_alone m t f rest i (Loops point) midst other h = other point refl
