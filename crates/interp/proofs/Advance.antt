-- The steps of a team that a thread's own step, its event or its trap is.
use Rattle.std.proofs.Common.{◌≡◌, ◌⊎◌, inl, inr, ℕ, zero, suc, List, [], ◌∷◌, map, true, Option, Some, None, Result, Ok, Err, refl, sym, ap, ◌∙◌, subst, slice_get, slice_set}
use Rattle.std.specs.Prelude.{option_map, MatchResult}
use Rattle.std.proofs.lemmas.Bool.{and_parts}
use Rattle.std.proofs.lemmas.List.{map-set}
use Rattle.std.proofs.lemmas.Option.{slice_get-map}
use Rattle.mem_model.proofs.Runs.{some_injective}
use Rattle.ir_core.specs.declared.answers.Or.{Or}
use Rattle.ir_core.specs.declared.answers.Or.TheVariants.{Refused, Memory as WantOfMemory}
use Rattle.mem_model.specs.declared.step.Moved.{Moved}
use Rattle.mem_model.specs.declared.step.NotReady.{NotReady}
use Rattle.ir_core.specs.declared.module.Module.{Module}
use Rattle.mem_model.specs.declared.step.Trap.{Trap}
use Rattle.mem_model.specs.declared.step.Moved.TheVariants.{Local as LocalMove, Event as EventMove, Trapped as TrapMove}
use Rattle.mem_model.specs.Thread.{ThreadState}
use Rattle.mem_model.specs.Next.{NextStep, Local, Pending, Done, Trapped, Next, line_at}
use Rattle.team_model.specs.declared.Stand.{Stand}
use Rattle.team_model.specs.declared.Stand.TheVariants.{Runs, Waits, Ended as Gone}
use Rattle.team_model.specs.declared.Trapping.{Trapping}
use Rattle.team_model.specs.Team.{TeamShared, Team, by_next, by_thread, by_stand, unless_trapped, TeamStep}
use Rattle.thread_state.specs.declared.state.ThreadState.{ThreadState as ThreadData}
use Rattle.thread_state.specs.Seen.{thread_seen, IsThread, IsSeen}
use Rattle.captures.specs.Published.{IsArea}
use Rattle.interp_local.specs.declared.steps.Own.TheVariants.{Went as WentOn, Event, Done as HasEnded}
use Rattle.interp_local.specs.declared.steps.Own.{Own}
use Rattle.interp_local.specs.Steps.{IsOwn, IsNext}
use Rattle.interp.specs.declared.shared.TeamShared.{TeamShared as SharedData}
use Rattle.interp.specs.declared.shared.Answer.{Answer}
use Rattle.interp.specs.declared.shared.Answer.TheVariants.{Went, Wait, Trapped as TrapAnswer}
use Rattle.interp.specs.declared.team.Team.{Team as TeamData}
use Rattle.interp.specs.Events.{shared_seen, answer_of, IsPending, HasHappened}
use Rattle.interp.specs.Teams.{team_seen, runs, goes, is_running, IsMoved, Advances, HasAdvanced, AreThreads, IsTeam, HasStepped}
use Rattle.interp.proofs.Happens.{set_same}

-- ---- what a thread has done by itself

pub own_went : (m : Module) (old new : ThreadData) (nx : NextStep) → IsOwn m old new nx (Ok WentOn) → IsThread m new × (nx ≡ Local (thread_seen m new))
own_went m old new (Local u) h = (h.0, ap Local (sym h.1))
own_went m old new (Pending e) h = absurd h
own_went m old new Done h = absurd h
own_went m old new (Trapped x) h = absurd h

pub own_event : (m : Module) (old new : ThreadData) (nx : NextStep) → IsOwn m old new nx (Ok Event) → (new ≡ old) × IsPending nx
own_event m old new (Local u) h = absurd h
own_event m old new (Pending e) h = (h, tt)
own_event m old new Done h = absurd h
own_event m old new (Trapped x) h = absurd h

pub own_done : (m : Module) (old new : ThreadData) (nx : NextStep) → IsOwn m old new nx (Ok HasEnded) → (nx ≡ Done) × (new ≡ old)
own_done m old new (Local u) h = absurd h
own_done m old new (Pending e) h = absurd h
own_done m old new Done h = (refl, h)
own_done m old new (Trapped x) h = absurd h

pub own_trap : (m : Module) (old new : ThreadData) (nx : NextStep) (e : Trap) → IsOwn m old new nx (Err e) → (nx ≡ Trapped e) × IsSeen m new (thread_seen m old)
own_trap m old new (Local u) e h = absurd h
own_trap m old new (Pending v) e h = absurd h
own_trap m old new Done e h = absurd h
own_trap m old new (Trapped x) e h = (ap Trapped h.0, h.1)

pub next_trap : (m : Module) (old new : ThreadData) (x : Trap) (r : Result Own (Or Trap)) → r ≡ Err (Refused x) → IsNext m old new r → (Next m (thread_seen m old) ≡ Trapped x) × IsSeen m new (thread_seen m old)
next_trap m old new x r e h = own_trap m old new (Next m (thread_seen m old)) x (subst (IsNext m old new) e h)

-- ---- a thread that runs

goes_on : (o : Option Trapping) → goes o ≡ true → o ≡ None
goes_on None e = refl
goes_on (Some t) e = let f : ⊥ = cc in absurd f

runs_on : (o : Option Stand) → runs o ≡ true → o ≡ Some Runs
runs_on None e = let f : ⊥ = cc in absurd f
runs_on (Some Runs) e = refl
runs_on (Some (Waits b)) e = let f : ⊥ = cc in absurd f
runs_on (Some Gone) e = let f : ⊥ = cc in absurd f

module _ (sh : SharedData) (n : ℕ) (running : is_running sh n ≡ true) where
  pub not_trapped : sh.trapped ≡ None
  not_trapped = goes_on sh.trapped (and_parts (goes sh.trapped) (runs (slice_get sh.stands n)) running).0

  pub stands_running : slice_get sh.stands n ≡ Some Runs
  stands_running = runs_on (slice_get sh.stands n) (and_parts (goes sh.trapped) (runs (slice_get sh.stands n)) running).1

-- ---- events

moved_event : (nx : NextStep) (o : Option Trapping) → IsPending nx → o ≡ None → IsMoved nx o EventMove
moved_event (Pending e) None p none = tt
moved_event (Pending e) (Some t) p none = let f : ⊥ = cc in absurd f
moved_event (Local u) o p none = absurd p
moved_event Done o p none = absurd p
moved_event (Trapped x) o p none = absurd p

moved_trap : (nx : NextStep) (o : Option Trapping) → IsPending nx → (o ≡ None → ⊥) → IsMoved nx o TrapMove
moved_trap (Pending e) None p some = absurd (some refl)
moved_trap (Pending e) (Some t) p some = tt
moved_trap (Local u) o p some = absurd p
moved_trap Done o p some = absurd p
moved_trap (Trapped y) o p some = absurd p

-- the answer is a trap exactly where the run has trapped
no_trap_yet : (a : Answer) (o : Option Trapping) (stand : Option Stand) → a ≡ answer_of o stand → ((x : Trap) → a ≡ TrapAnswer x → ⊥) → o ≡ None
no_trap_yet a None stand e other = refl
no_trap_yet a (Some t) stand e other = absurd (other t.trap e)

is_trap : (x : Trap) (o : Option Trapping) (stand : Option Stand) → TrapAnswer x ≡ answer_of o stand → o ≡ None → ⊥
is_trap x (Some t) stand e none = let f : ⊥ = cc in f
is_trap x None None e none = let f : ⊥ = cc in f
is_trap x None (Some Runs) e none = let f : ⊥ = cc in f
is_trap x None (Some (Waits kind)) e none = let f : ⊥ = cc in f
is_trap x None (Some Gone) e none = let f : ⊥ = cc in f

pub goes_or_waits : (a : Answer) → (a ≡ Went) ⊎ (a ≡ Wait) → (x : Trap) → a ≡ TrapAnswer x → ⊥
goes_or_waits a (inl e) x h = let f : Went ≡ TrapAnswer x = sym e ∙ h in let g : ⊥ = cc in g
goes_or_waits a (inr e) x h = let f : Wait ≡ TrapAnswer x = sym e ∙ h in let g : ⊥ = cc in g

pub event_goes : (m : Module) (n : ℕ) (sh sh' : SharedData) (s s' : ThreadData) (a : Answer) → IsPending (Next m (thread_seen m s)) → ((x : Trap) → a ≡ TrapAnswer x → ⊥) → HasHappened m n 0 sh sh' s s' a → Advances m n sh sh' s s' EventMove
event_goes m n sh sh' s s' a p other h = record { thread = h.thread; area = h.area; step = h.step; moved_is = moved_event (Next m (thread_seen m s)) sh'.trapped p (no_trap_yet a sh'.trapped (slice_get sh'.stands n) h.answer_is other) }

pub event_traps : (m : Module) (n : ℕ) (sh sh' : SharedData) (s s' : ThreadData) (x : Trap) → IsPending (Next m (thread_seen m s)) → HasHappened m n 0 sh sh' s s' (TrapAnswer x) → Advances m n sh sh' s s' TrapMove
event_traps m n sh sh' s s' x p h = record { thread = h.thread; area = h.area; step = h.step; moved_is = moved_trap (Next m (thread_seen m s)) sh'.trapped p (is_trap x sh'.trapped (slice_get sh'.stands n) h.answer_is) }

-- ---- own steps and traps

step_by : (m : Module) (n : ℕ) (sh : TeamShared) (t : ThreadState) (nx : NextStep) → Next m t ≡ nx → sh.trapped ≡ None → slice_get sh.stands n ≡ Some Runs → (team : Team) → team.shared ≡ sh → slice_get team.threads n ≡ Some t → TeamStep m team n ≡ by_next m team n t nx
step_by m n sh t nx next none running team is there =
    ap (λ (s : TeamShared). unless_trapped s.trapped (by_stand m team n (slice_get s.stands n))) is
    ∙ (λ i. unless_trapped (none i) (by_stand m team n (running i)))
    ∙ ap (by_thread m team n) there
    ∙ ap (by_next m team n t) next

pub local_goes : (m : Module) (n : ℕ) (sh : SharedData) (s s' : ThreadData) → is_running sh n ≡ true → IsThread m s' × (Next m (thread_seen m s) ≡ Local (thread_seen m s')) → Advances m n sh sh s s' LocalMove
local_goes m n sh s s' running h =
    let none = not_trapped sh n running in
    record {
      thread = h.0;
      area = λ a. a;
      step = λ team is there. step_by m n (shared_seen sh) (thread_seen m s) (Local (thread_seen m s')) h.1 none (stands_running sh n running) team is there ∙ (λ i. Some (record { shared = is i; threads = slice_set team.threads n (thread_seen m s') }));
      moved_is = subst (λ nx. IsMoved nx sh.trapped LocalMove) (sym h.1) (subst (λ o. IsMoved (Local (thread_seen m s')) o LocalMove) (sym none) tt);
    }

pub trap_goes : (m : Module) (n line : ℕ) (sh : SharedData) (s s' : ThreadData) (x : Trap) → is_running sh n ≡ true → Next m (thread_seen m s) ≡ Trapped x → IsSeen m s' (thread_seen m s) → line ≡ line_at m (thread_seen m s') →
    Advances m n sh (record sh { trapped = Some (record { thread = n; line = line; trap = x }) }) s s' TrapMove
trap_goes m n line sh s s' x running next same line_is = record {
  thread = same.0;
  area = λ a. a;
  step = λ team is there.
      step_by m n (shared_seen sh) (thread_seen m s) (Trapped x) next (not_trapped sh n running) (stands_running sh n running) team is there
      ∙ (λ i. Some (record {
        shared = record (is i) { trapped = Some (record { thread = n; line = (ap (line_at m) (sym same.1) ∙ sym line_is) i; trap = x }) };
        threads = (sym (set_same team.threads n (thread_seen m s) there) ∙ ap (slice_set team.threads n) (sym same.1)) i;
      }));
  moved_is = subst (λ nx. IsMoved nx (Some (record { thread = n; line = line; trap = x })) TrapMove) (sym next) refl;
}

pub err_is : {A E : Type 0} (P : A → Type 0) (Q : Type 0) (r : Result A E) (x : E) → MatchResult r P (λ e. Q) → r ≡ Err x → Q
err_is P Q r x h e = subst (λ y. MatchResult y P (λ e. Q)) e h

pub memory_wants : (m : Module) (n : ℕ) (sh sh' : SharedData) (s s' : ThreadData) (result : Result Moved (Or NotReady)) → result ≡ Err WantOfMemory → IsThread m s → (sh' ≡ sh) × (s' ≡ s) → HasAdvanced m n sh sh' s s' result
memory_wants m n sh sh' s s' result is thread same = subst (HasAdvanced m n sh sh' s s') (sym is) (same.0, (subst (IsThread m) (sym same.1) thread, ap (thread_seen m) same.1))

-- ---- a step of a team

all_set : (m : Module) (xs : List ThreadData) (n : ℕ) (s : ThreadData) → AreThreads m xs → IsThread m s → AreThreads m (slice_set xs n s)
all_set m [] n s are is i v e = are i v e
all_set m (x ∷ xs) zero s are is zero v e = subst (IsThread m) (some_injective e) is
all_set m (x ∷ xs) zero s are is (suc i) v e = are (suc i) v e
all_set m (x ∷ xs) (suc n) s are is zero v e = are 0 v e
all_set m (x ∷ xs) (suc n) s are is (suc i) v e = all_set m xs n s (λ k. are (suc k)) is i v e

pub stepped : (m : Module) (n : ℕ) (old new : TeamData) (s s' : ThreadData) (sh' : SharedData) (result : Result Moved (Or NotReady)) → new.shared ≡ sh' → new.threads.items ≡ slice_set old.threads.items n s' → IsTeam m old → slice_get old.threads.items n ≡ Some s → is_running old.shared n ≡ true →
    HasAdvanced m n old.shared sh' s s' result → HasStepped m n old new result
stepped m n old new s s' sh' (Ok moved) shared items are there running h =
    let found : slice_get (map (thread_seen m) old.threads.items) n ≡ Some (thread_seen m s) = slice_get-map (thread_seen m) old.threads.items n ∙ ap (option_map (thread_seen m)) there in
    let threads : slice_set (map (thread_seen m) old.threads.items) n (thread_seen m s') ≡ map (thread_seen m) new.threads.items = sym (map-set (thread_seen m) old.threads.items n s') ∙ ap (map (thread_seen m)) (sym items) in (
      h.step (team_seen m old) refl found ∙ (λ i. Some (record { shared = shared_seen (sym shared i); threads = threads i })),
      (subst (AreThreads m) (sym items) (all_set m old.threads.items n s' are.0 h.thread), subst (λ (z : SharedData). IsArea z.memory) (sym shared) (h.area are.1)),
      λ v at. subst (λ (z : SharedData). IsMoved (Next m (thread_seen m v)) z.trapped moved) (sym shared) (subst (λ u. IsMoved (Next m (thread_seen m u)) sh'.trapped moved) (some_injective (sym there ∙ at)) h.moved_is),
    )
stepped m n old new s s' sh' (Err (Refused r)) shared items are there running h =
    let found : slice_get (map (thread_seen m) old.threads.items) n ≡ Some (thread_seen m s) = slice_get-map (thread_seen m) old.threads.items n ∙ ap (option_map (thread_seen m)) there in (
      step_by m n (shared_seen old.shared) (thread_seen m s) Done h.0 (not_trapped old.shared n running) (stands_running old.shared n running) (team_seen m old) refl found,
      (shared ∙ h.1, items ∙ ap (slice_set old.threads.items n) h.2 ∙ set_same old.threads.items n s there),
    )
stepped m n old new s s' sh' (Err WantOfMemory) shared items are there running h =
    let found : slice_get (map (thread_seen m) old.threads.items) n ≡ Some (thread_seen m s) = slice_get-map (thread_seen m) old.threads.items n ∙ ap (option_map (thread_seen m)) there in
    let threads : map (thread_seen m) new.threads.items ≡ map (thread_seen m) old.threads.items =
    ap (map (thread_seen m)) items
    ∙ map-set (thread_seen m) old.threads.items n s'
    ∙ ap (slice_set (map (thread_seen m) old.threads.items) n) h.1.1
    ∙ set_same (map (thread_seen m) old.threads.items) n (thread_seen m s) found in
    (shared ∙ h.0, (λ i. record { shared = shared_seen ((shared ∙ h.0) i); threads = threads i }), (subst (AreThreads m) (sym items) (all_set m old.threads.items n s' are.0 h.1.0), subst (λ (z : SharedData). IsArea z.memory) (sym (shared ∙ h.0)) are.1))
