-- What is told of the next step before it is made, and runs of own steps.
use Rattle.std.proofs.Common.{◌≡◌, ℕ, suc, ◌+◌, true, ◌<◌, ◌≤◌, List, [], ◌∷◌, length, false, Option, Some, None, Result, Ok, Err, refl, sym, ap, ◌∙◌, subst, arith}
use Rattle.ir_core.specs.declared.module.Module.{Module}
use Rattle.mem_model.specs.declared.memory.Byte.{Byte}
use Rattle.mem_model.specs.declared.memory.Word.{Word}
use Rattle.mem_model.specs.declared.step.Trap.{Trap}
use Rattle.mem_model.specs.Thread.{Frame, ThreadState}
use Rattle.mem_model.specs.Next.{NextStep, Local, Pending, Done, Trapped, with_found, returns, Next}
use Rattle.mem_model.specs.Answers.{only_trap}
use Rattle.thread_state.specs.declared.state.ThreadState.{ThreadState as ThreadData}
use Rattle.thread_state.specs.Seen.{thread_seen, IsThread, IsSeen}
use Rattle.interp_local.specs.declared.steps.Own.{Own}
use Rattle.interp_local.specs.declared.steps.Own.TheVariants.{Went, Event, Done as HasEnded}
use Rattle.std.specs.Prelude.{MatchResult, IsErr}
use Rattle.ir_core.specs.declared.answers.Or.{Or}
use Rattle.ir_core.specs.declared.answers.Or.TheVariants.{Memory as WantOfMemory}
use Rattle.interp_local.specs.Steps.{IsOwn, IsTried, IsNext, StandsAtTaking}
use Rattle.interp_local.specs.declared.run.Pause.{Pause}
use Rattle.interp_local.specs.Runs.{LocalRun, Tells, Pauses, IsRan, HasRunShort, is_went, pause_seen, tried}
use Rattle.interp_local.proofs.Returned.{count_calls}

-- ---- looks

pub tells_event : (m : Module) (s : ThreadData) (word : Option Word) (f : Frame) (rest : List Frame) → length s.frames.items < 2 → (thread_seen m s).frames ≡ f ∷ rest → Tells (returns (thread_seen m s) rest f.code.back word) (Ok Event)
tells_event m s word f [] few frames = tt
tells_event m s word f (c ∷ rest) few frames = let size = sym (count_calls m s) ∙ ap length frames in absurd (omega arith)

pub tells_return : (m : Module) (s : ThreadData) (word : Option Word) (f : Frame) (rest : List Frame) → 2 ≤ length s.frames.items → (thread_seen m s).frames ≡ f ∷ rest → Tells (returns (thread_seen m s) rest f.code.back word) (Ok Went)
tells_return m s word f [] more frames = let size = sym (count_calls m s) ∙ ap length frames in absurd (omega arith)
tells_return m s None f (c ∷ rest) more frames = tt
tells_return m s (Some word) f (c ∷ rest) more frames = tt

pub tells_trap : {A : Type 0} (r : Result A Trap) (go : A → NextStep) (e : Trap) (result : Result Own Trap) → r ≡ Err e → result ≡ Err e → Tells (with_found r go) result
tells_trap r go e result is same = subst (λ x. Tells (with_found r go) x) (sym same) (subst (λ x. Tells (with_found x go) (Err e)) (sym is) refl)

pub trap_of : (r : Result (List Byte) Trap) (e : Trap) → Err e ≡ only_trap r → r ≡ Err e
trap_of (Err x) e is = let same : e ≡ x = cc in ap Err (sym same)
trap_of (Ok bytes) e is = let f : ⊥ = cc in absurd f

pub tells_store : (r : Result (List Byte) Trap) (go : List Byte → ThreadState) → Ok tt ≡ only_trap r → Tells (with_found r (λ bytes. Local (go bytes))) (Ok Went)
tells_store (Err x) go is = let f : ⊥ = cc in absurd f
tells_store (Ok bytes) go is = tt

pub told_trap : (nx : NextStep) (e : Trap) (result : Result Own Trap) → Trapped e ≡ nx → result ≡ Err e → Tells nx result
told_trap nx e result is same = subst (λ r. Tells nx r) (sym same) (subst (λ x. Tells x (Err e)) is refl)

-- ---- runs

same_as : (m : Module) (old new : ThreadData) → IsThread m old → new ≡ old → IsSeen m new (thread_seen m old)
same_as m old new is same = (subst (IsThread m) (sym same) is, ap (thread_seen m) same)

-- the state means what it did where no step was made
pub pauses : (m : Module) (old new : ThreadData) (steps limit : ℕ) (nx : NextStep) (own : Result Own Trap) → is_went own ≡ false → IsThread m old → IsOwn m old new nx own → IsSeen m new (thread_seen m old) × Pauses steps limit nx (pause_seen own)
pauses m old new steps limit (Local u) (Ok Went) w is h = let f : ⊥ = cc in absurd f
pauses m old new steps limit (Local u) (Ok Event) w is h = absurd h
pauses m old new steps limit (Local u) (Ok HasEnded) w is h = absurd h
pauses m old new steps limit (Local u) (Err e) w is h = absurd h
pauses m old new steps limit (Pending v) (Ok Went) w is h = absurd h
pauses m old new steps limit (Pending v) (Ok Event) w is h = (same_as m old new is h, tt)
pauses m old new steps limit (Pending v) (Ok HasEnded) w is h = absurd h
pauses m old new steps limit (Pending v) (Err e) w is h = absurd h
pauses m old new steps limit Done (Ok Went) w is h = absurd h
pauses m old new steps limit Done (Ok Event) w is h = absurd h
pauses m old new steps limit Done (Ok HasEnded) w is h = (same_as m old new is h, tt)
pauses m old new steps limit Done (Err e) w is h = absurd h
pauses m old new steps limit (Trapped x) (Ok o) w is h = absurd (no_trap o h)
  where
    no_trap : (o : Own) → IsOwn m old new (Trapped x) (Ok o) → ⊥
    no_trap Went h = h
    no_trap Event h = h
    no_trap HasEnded h = h
pauses m old new steps limit (Trapped x) (Err e) w is h = (h.1, h.0)

pub stays : (m : Module) (first old new : ThreadData) (steps limit : ℕ) (own : Result Own Trap) (pause : Pause) → IsSeen m new (thread_seen m old) → LocalRun m (thread_seen m first) steps (thread_seen m old) → steps ≤ limit → Pauses steps limit (Next m (thread_seen m old)) (pause_seen own) → pause ≡ pause_seen own →
    IsRan m first new limit (record { steps = steps; pause = pause })
stays m first old new steps limit own pause same run within h is = record {
  thread = same.0;
  run = subst (LocalRun m (thread_seen m first) steps) (sym same.1) run;
  within = within;
  pause = subst (λ t. Pauses steps limit (Next m t) pause) (sym same.1) (subst (Pauses steps limit (Next m (thread_seen m old))) (sym is) h);
}

pub answered_ok : {E : Type 0} (r : Result Own (Or Trap)) (own : Result Own Trap) (result : Result (Result Own Trap) E) → MatchResult result (λ answer. r ≡ tried answer) (λ e. r ≡ Err WantOfMemory) → result ≡ Ok own → r ≡ tried own
answered_ok r own result h e = subst (λ x. MatchResult x (λ answer. r ≡ tried answer) (λ e. r ≡ Err WantOfMemory)) e h

pub answered_err : {E : Type 0} (r : Result Own (Or Trap)) (x : E) (result : Result (Result Own Trap) E) → MatchResult result (λ answer. r ≡ tried answer) (λ e. r ≡ Err WantOfMemory) → result ≡ Err x → r ≡ Err WantOfMemory
answered_err r x result h e = subst (λ y. MatchResult y (λ answer. r ≡ tried answer) (λ e. r ≡ Err WantOfMemory)) e h

own_tried : (W : Type 0) (m : Module) (old new : ThreadData) (nx : NextStep) (own : Result Own Trap) → IsTried W m old new nx (tried own) → IsOwn m old new nx own
own_tried W m old new nx (Ok own) h = h
own_tried W m old new nx (Err trap) h = h

pub next_own : (m : Module) (old new : ThreadData) (r : Result Own (Or Trap)) (own : Result Own Trap) → r ≡ tried own → IsNext m old new r → IsOwn m old new (Next m (thread_seen m old)) own
next_own m old new r own e h = own_tried (StandsAtTaking m (thread_seen m old)) m old new (Next m (thread_seen m old)) own (subst (IsNext m old new) e h)

-- a step that went is one more
goes_further : (m : Module) (first old new : ThreadData) (steps : ℕ) (nx : NextStep) (own : Result Own Trap) → Next m (thread_seen m old) ≡ nx → is_went own ≡ true → IsOwn m old new nx own → LocalRun m (thread_seen m first) steps (thread_seen m old) → IsThread m new × LocalRun m (thread_seen m first) (suc steps) (thread_seen m new)
goes_further m first old new steps (Local u) (Ok Went) e w h run = (h.0, (thread_seen m old, run, e ∙ ap Local (sym h.1)))
goes_further m first old new steps nx (Ok Event) e w h run = let f : ⊥ = cc in absurd f
goes_further m first old new steps nx (Ok HasEnded) e w h run = let f : ⊥ = cc in absurd f
goes_further m first old new steps nx (Err x) e w h run = let f : ⊥ = cc in absurd f
goes_further m first old new steps (Pending v) (Ok Went) e w h run = absurd h
goes_further m first old new steps Done (Ok Went) e w h run = absurd h
goes_further m first old new steps (Trapped x) (Ok Went) e w h run = absurd h

pub further : (m : Module) (first old new : ThreadData) (steps : ℕ) (own : Result Own Trap) → is_went own ≡ true → IsOwn m old new (Next m (thread_seen m old)) own → LocalRun m (thread_seen m first) steps (thread_seen m old) → IsThread m new × LocalRun m (thread_seen m first) (steps + 1) (thread_seen m new)
further m first old new steps own w h run =
    let next : suc steps ≡ steps + 1 = omega arith in
    let p = goes_further m first old new steps (Next m (thread_seen m old)) own refl w h run in
    (p.0, subst (λ n. LocalRun m (thread_seen m first) n (thread_seen m new)) next p.1)

-- memory wants where the thread stands
pub short : (m : Module) (first old new : ThreadData) (steps limit : ℕ) (r : Result Own (Or Trap)) → r ≡ Err WantOfMemory → IsNext m old new r → LocalRun m (thread_seen m first) steps (thread_seen m old) → steps < limit → HasRunShort m first new limit
short m first old new steps limit r e h run within =
    let p = subst (IsNext m old new) e h in
    record {
      steps = steps;
      thread = p.0.0;
      run = subst (LocalRun m (thread_seen m first) steps) (sym p.0.1) run;
      within = within;
      takes = subst (StandsAtTaking m) (sym p.0.1) p.1;
    }

pub match_err : {A E : Type 0} (P : A → Type 0) (Q : Type 0) (r : Result A E) → IsErr r → Q → MatchResult r P (λ e. Q)
match_err P Q (Err e) is q = q
match_err P Q (Ok a) is q = let f : ⊥ = cc in absurd f
