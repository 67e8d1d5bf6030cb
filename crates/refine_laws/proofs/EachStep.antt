-- Each step of the team is met by a step of the source, or by none.
use Rattle.std.proofs.Common.{◌≡◌, ◌≢◌, ℕ, ◌+◌, ◌<◌, ◌≤◌, [], ◌∷◌, length, get_or, Bool, true, false, Option, Some, None, Result, Ok, Err, refl, sym, ap, ◌∙◌, subst, arith, ◌⊎◌, inl, inr}
use Rattle.std.specs.Prelude.{slice_get}
use Rattle.std.specs.List.{list_all}
use Rattle.std.proofs.lemmas.Bool.{cases_eq}
use Rattle.std.proofs.lemmas.Option.{slice_get_within, slice_get-get_or}
use Rattle.ir_core.specs.declared.module.Module.{Module}
use Rattle.ir_core.specs.declared.instructions.RmwOp.{RmwOp}
use Rattle.ir_core.specs.MachineOff.{machine_off}
use Rattle.mem_model.specs.declared.launch.Launch.{Launch}
use Rattle.mem_model.specs.declared.memory.Ptr.{Ptr}
use Rattle.mem_model.specs.declared.memory.Word.{Word}
use Rattle.mem_model.specs.declared.memory.Word.TheVariants.{Int}
use Rattle.mem_model.specs.declared.memory.Cell.{Cell}
use Rattle.mem_model.specs.declared.memory.Cell.TheVariants.{Int as IntCell}
use Rattle.mem_model.specs.declared.step.Trap.{Trap}
use Rattle.mem_model.specs.declared.step.Trap.TheVariants.{NoBlock}
use Rattle.mem_model.specs.Memory.{Memory, Given, Load, Store}
use Rattle.mem_model.specs.Update.{Updated, Update}
use Rattle.mem_model.specs.Values.{updated}
use Rattle.mem_model.specs.Thread.{ThreadState}
use Rattle.mem_model.specs.Next.{Loads, Stores, Updates, Prints, Makes, Releases, Does, Deinit, Forks, Arrives, AsksForWork, Leaves, NextStep, Local, Pending, Done, Trapped, Next, resumed, line_at}
use Rattle.mem_model.specs.Do.{loaded, stored, changed}
use Rattle.mem_model.specs.Runs.{run, then_run, Safe}
use Rattle.mem_model.proofs.Runs.{some_injective, none_is_not_some}
use Rattle.mem_model.proofs.Simulation.{IsReached, reached_then, Meets, MeetsEach}
use Rattle.source_model.specs.declared.Choice.TheVariants.{Main}
use Rattle.source_model.specs.Source as source
use Rattle.source_model.specs.Source.{SourceState, SourceStep, SourceSystem, source_start, has_returned, by_main, while_running}
use Rattle.team_model.specs.declared.Stand.{Stand}
use Rattle.team_model.specs.declared.Stand.TheVariants.{Runs, Waits, Ended as Gone}
use Rattle.team_model.specs.Team as team
use Rattle.team_model.specs.Team.{Team, TeamStep, by_next, by_thread, by_stand, unless_trapped, slot_after_deinit}
use Rattle.refine_laws.specs.Quiet.{CallsQuietly}
use Rattle.refine_laws.proofs.QuietSteps.{QuietStep, quiet_next, runs_user_resumed}
use Rattle.refine_laws.proofs.SameNext.{next_same, resumed_same}
use Rattle.refine_laws.proofs.AlikeMemory.{load_alike, store_alike, BothStored, update_alike, BothUpdated}
use Rattle.refine_laws.proofs.WayOut.{WayOut, still_runs}
use Rattle.refine_laws.proofs.Relation.{stand_of, team_moved, leaves_is, Tied, main_moves, main_leaves, worker_moves, worker_leaves}

-- what a step of thread d says
pub record Moves (m : Module) (t : Team) (d : ℕ) (u : Team) : Type 0 where
  pub thread : ThreadState
  pub stand : slice_get t.shared.stands d ≡ Some Runs
  pub at : slice_get t.threads d ≡ Some thread
  pub next : by_next m t d thread (Next m thread) ≡ Some u

by_thread_moves : (m : Module) (t : Team) (d : ℕ) (u : Team) → slice_get t.shared.stands d ≡ Some Runs → (o : Option ThreadState) → slice_get t.threads d ≡ o → by_thread m t d o ≡ Some u → Moves m t d u
by_thread_moves m t d u s None h e = none_is_not_some e
by_thread_moves m t d u s (Some th) h e = record { thread = th; stand = s; at = h; next = e }

by_stand_moves : (m : Module) (t : Team) (d : ℕ) (u : Team) → (o : Option Stand) → slice_get t.shared.stands d ≡ o → by_stand m t d o ≡ Some u → Moves m t d u
by_stand_moves m t d u None h e = none_is_not_some e
by_stand_moves m t d u (Some Runs) h e = by_thread_moves m t d u h (slice_get t.threads d) refl e
by_stand_moves m t d u (Some (Waits b)) h e = none_is_not_some e
by_stand_moves m t d u (Some Gone) h e = none_is_not_some e

pub moves_of : (m : Module) (t : Team) (d : ℕ) (u : Team) → t.shared.trapped ≡ None → TeamStep m t d ≡ Some u → Moves m t d u
moves_of m t d u goes e =
    by_stand_moves m t d u (slice_get t.shared.stands d) refl (sym (ap (λ o. unless_trapped o (by_stand m t d (slice_get t.shared.stands d))) goes) ∙ e)

-- one step of the source's main thread, where it is in no region
pub source_moves : (m : Module) (s v : SourceState) (nx : NextStep) → s.returned ≡ false → s.trapped ≡ None → list_all has_returned s.region ≡ true → Next m s.main ≡ nx → source.by_next m s Main s.main nx ≡ Some v → run (SourceStep m) (Main ∷ []) s ≡ Some v
source_moves m s v nx goes untrapped no_region is step =
    ap (λ b. then_run (while_running b s.trapped (by_main m s (list_all has_returned s.region))) (run (SourceStep m) [])) goes
    ∙ ap (λ o. then_run (while_running false o (by_main m s (list_all has_returned s.region))) (run (SourceStep m) [])) untrapped
    ∙ ap (λ b. then_run (by_main m s b) (run (SourceStep m) [])) no_region
    ∙ ap (λ x. then_run (source.by_next m s Main s.main x) (run (SourceStep m) [])) is
    ∙ ap (λ o. then_run o (run (SourceStep m) [])) step

runs_is_not_gone : (b : Bool) → Some (stand_of b) ≡ Some Runs → b ≡ false
runs_is_not_gone true e = let f : ⊥ = cc in absurd f
runs_is_not_gone false e = refl

before_or_last : (j last : ℕ) → j ≤ last → (j < last) ⊎ (j ≡ last)
before_or_last j last h = elim (cases_eq j last) [ inl same ↦ inr same | inr apart ↦ inl (omega arith) ]

module _ (m : Module) (l : Launch) (last : ℕ) (way : WayOut (machine_off m) l last) (quiet : CallsQuietly m) (safe : Safe (SourceSystem m l 0)) where
  abbrev out : Module
  out = machine_off m

  abbrev Tie : SourceState → Team → ℕ → Type 0
  Tie = Tied m l last way

  abbrev start : SourceState
  start = source_start m l 0

  abbrev Reaches : SourceState → Type 0
  Reaches = IsReached (SourceStep m) (TeamStep out) start Tie 1

  abbrev IsMet : SourceState → ℕ → ℕ → Team → Type 0
  IsMet = Meets (SourceStep m) (TeamStep out) start Tie 1

  -- the source's next step is no trap
  no_trap : {B : Type 0} (s : SourceState) → Reaches s → (x : Trap) → run (SourceStep m) (Main ∷ []) s ≡ Some (source.traps m s s.main x) → B
  no_trap s r x e =
      let r1 = reached_then (SourceStep m) (TeamStep out) start Tie 1 s (source.traps m s s.main x) (Main ∷ []) r e in
      absurd (safe (length r1.0) _ s.main.own (line_at m s.main) x (r1.0, source.traps m s s.main x, refl, r1.1, refl, refl))

  met : (s v : SourceState) (t u : Team) (n : ℕ) → run (SourceStep m) (Main ∷ []) s ≡ Some v → Tie v t n → t ≡ u → IsMet s 1 n u
  met s v t u n e tie is = record { choices = Main ∷ []; state = v; paid_after = n; runs = e; alike = subst (λ x. Tie v x n) is tie; pays = omega arith }

  load_met : (s : SourceState) (t u : Team) (n : ℕ) → Reaches s → Tie s t n → s.returned ≡ false → (p : Ptr) (c : Cell) → Next m s.main ≡ Pending (Does (Loads p c)) → (a : Result Word Trap) → Load s.common.memory p c ≡ a →
      (Load s.common.memory p c ≡ Err NoBlock) ⊎ (Load t.shared.common.memory p c ≡ Load s.common.memory p c) → team.acts out t l.threads s.main (loaded t.shared.common (Load t.shared.common.memory p c)) ≡ u → IsMet s 1 n u
  load_met s t u n r tie goes p c is (Err f) h alike e =
      no_trap s r f (source_moves m s _ (Pending (Does (Loads p c))) goes tie.source_goes tie.no_region is (ap (λ o. Some (source.acts m s Main s.main (loaded s.common o))) h))
  load_met s t u n r tie goes p c is (Ok v) h (inl f) e = let x : ⊥ = cc in absurd x
  load_met s t u n r tie goes p c is (Ok v) h (inr same) e =
      met s _ _ u n (source_moves m s _ (Pending (Does (Loads p c))) goes tie.source_goes tie.no_region is (ap (λ o. Some (source.acts m s Main s.main (loaded s.common o))) h))
      (main_moves m l last way s t n tie (resumed m s.main (Some v)) s.common.memory t.shared.common.memory t.shared.slot (runs_user_resumed m s.main tie.user (Some v)) tie.memory)
      (ap (λ x. team_moved t l.threads x t.shared.common.memory t.shared.slot) (sym (resumed_same m s.main (Some v))) ∙ sym (ap (λ o. team.acts out t l.threads s.main (loaded t.shared.common o)) (same ∙ h)) ∙ e)

  store_met : (s : SourceState) (t u : Team) (n : ℕ) → Reaches s → Tie s t n → s.returned ≡ false → (p : Ptr) (c : Cell) (v : Given) → Next m s.main ≡ Pending (Does (Stores p c v)) → (a b : Result Memory Trap) → Store s.common.memory p c v ≡ a →
      (a ≡ Err NoBlock) ⊎ BothStored a b → team.acts out t l.threads s.main (stored t.shared.common b) ≡ u → IsMet s 1 n u
  store_met s t u n r tie goes p c v is (Err f) b h alike e =
      no_trap s r f (source_moves m s _ (Pending (Does (Stores p c v))) goes tie.source_goes tie.no_region is (ap (λ o. Some (source.acts m s Main s.main (stored s.common o))) h))
  store_met s t u n r tie goes p c v is (Ok a) b h (inl f) e = let x : ⊥ = cc in absurd x
  store_met s t u n r tie goes p c v is (Ok a) (Err f) h (inr x) e = absurd x
  store_met s t u n r tie goes p c v is (Ok a) (Ok b) h (inr alike) e =
      met s _ _ u n (source_moves m s _ (Pending (Does (Stores p c v))) goes tie.source_goes tie.no_region is (ap (λ o. Some (source.acts m s Main s.main (stored s.common o))) h))
      (main_moves m l last way s t n tie (resumed m s.main None) a b t.shared.slot (runs_user_resumed m s.main tie.user None) alike)
      (ap (λ x. team_moved t l.threads x b t.shared.slot) (sym (resumed_same m s.main None)) ∙ e)

  update_met : (s : SourceState) (t u : Team) (n : ℕ) → Reaches s → Tie s t n → s.returned ≡ false → (p : Ptr) (width : ℕ) (op : RmwOp) (v : ℕ) → Next m s.main ≡ Pending (Does (Updates p width op v)) → (a b : Result Updated Trap) →
      Update s.common.memory p (IntCell width) (λ old. updated op width old v) ≡ a → (a ≡ Err NoBlock) ⊎ BothUpdated a b → team.acts out t l.threads s.main (changed t.shared.common b) ≡ u → IsMet s 1 n u
  update_met s t u n r tie goes p width op v is (Err f) b h alike e =
      no_trap s r f (source_moves m s _ (Pending (Does (Updates p width op v))) goes tie.source_goes tie.no_region is (ap (λ o. Some (source.acts m s Main s.main (changed s.common o))) h))
  update_met s t u n r tie goes p width op v is (Ok a) b h (inl f) e = let x : ⊥ = cc in absurd x
  update_met s t u n r tie goes p width op v is (Ok a) (Err f) h (inr x) e = absurd x
  update_met s t u n r tie goes p width op v is (Ok a) (Ok b) h (inr alike) e =
      met s _ _ u n (source_moves m s _ (Pending (Does (Updates p width op v))) goes tie.source_goes tie.no_region is (ap (λ o. Some (source.acts m s Main s.main (changed s.common o))) h))
      (main_moves m l last way s t n tie (resumed m s.main (Some (Int a.old))) a.memory b.memory t.shared.slot (runs_user_resumed m s.main tie.user (Some (Int a.old))) alike.0)
      (ap (λ x. team_moved t l.threads x b.memory t.shared.slot) (ap (λ old. resumed m s.main (Some (Int old))) (sym alike.1) ∙ sym (resumed_same m s.main (Some (Int b.old)))) ∙ e)

  main_steps : (s : SourceState) (t u : Team) (n : ℕ) → Reaches s → Tie s t n → s.returned ≡ false → (nx : NextStep) → QuietStep nx → Next m s.main ≡ nx → by_next out t l.threads s.main nx ≡ Some u → IsMet s 1 n u
  main_steps s t u n r tie goes (Local v) q is e =
      met s _ _ u n (source_moves m s _ (Local v) goes tie.source_goes tie.no_region is refl) (main_moves m l last way s t n tie v s.common.memory t.shared.common.memory t.shared.slot q tie.memory) (some_injective e)
  main_steps s t u n r tie goes Done q is e = none_is_not_some e
  main_steps s t u n r tie goes (Trapped x) q is e = no_trap s r x (source_moves m s _ (Trapped x) goes tie.source_goes tie.no_region is refl)
  main_steps s t u n r tie goes (Pending Deinit) q is e =
      let slot = slot_after_deinit s.main t.shared.slot in
      met s _ _ u n (source_moves m s _ (Pending Deinit) goes tie.source_goes tie.no_region is refl) (main_moves m l last way s t n tie (resumed m s.main None) s.common.memory t.shared.common.memory slot (runs_user_resumed m s.main tie.user None) tie.memory)
      (ap (λ x. team_moved t l.threads x t.shared.common.memory slot) (sym (resumed_same m s.main None)) ∙ some_injective e)
  main_steps s t u n r tie goes (Pending Leaves) q is e =
      met s _ _ u n (source_moves m s _ (Pending Leaves) goes tie.source_goes tie.no_region is refl) (main_leaves m l last way s t n tie) (leaves_is t l.threads tie.all_free ∙ some_injective e)
  main_steps s t u n r tie goes (Pending (Does (Loads p c))) q is e =
      load_met s t u n r tie goes p c is (Load s.common.memory p c) refl (load_alike s.common.memory t.shared.common.memory tie.memory p c) (some_injective e)
  main_steps s t u n r tie goes (Pending (Does (Stores p c v))) q is e =
      store_met s t u n r tie goes p c v is (Store s.common.memory p c v) (Store t.shared.common.memory p c v) refl (store_alike s.common.memory t.shared.common.memory tie.memory p c v) (some_injective e)
  main_steps s t u n r tie goes (Pending (Does (Updates p width op v))) q is e =
      let change : ℕ → ℕ = λ old. updated op width old v in
      update_met s t u n r tie goes p width op v is (Update s.common.memory p (IntCell width) change) (Update t.shared.common.memory p (IntCell width) change) refl
      (update_alike s.common.memory t.shared.common.memory tie.memory p (IntCell width) change) (some_injective e)
  main_steps s t u n r tie goes (Pending (Does (Prints k))) q is e = absurd q
  main_steps s t u n r tie goes (Pending (Does (Makes size))) q is e = absurd q
  main_steps s t u n r tie goes (Pending (Does (Releases p size))) q is e = absurd q
  main_steps s t u n r tie goes (Pending (Forks function wrapper ps)) q is e = absurd q
  main_steps s t u n r tie goes (Pending (Arrives kind phase)) q is e = absurd q
  main_steps s t u n r tie goes (Pending AsksForWork) q is e = absurd q

  -- a worker's step is met by none
  waits : (s : SourceState) (t u : Team) (n : ℕ) → (after : ℕ) × (1 + after ≤ n) × Tie s t after → t ≡ u → IsMet s 1 n u
  waits s t u n a e = record { choices = []; state = s; paid_after = a.0; runs = refl; alike = subst (λ x. Tie s x a.0) e a.2; pays = omega (arith, a.1) }

  -- a worker that has not left moves on, or leaves
  worker_steps : (s : SourceState) (t u : Team) (n : ℕ) (tie : Tie s t n) (d j : ℕ) → d < l.threads → slice_get tie.stages d ≡ Some j → by_next out t d (way.state d j) (Next out (way.state d j)) ≡ Some u → (j < last) ⊎ (j ≡ last) → IsMet s 1 n u
  worker_steps s t u n tie d j low h e (inl before) = waits s _ u n (worker_moves m l last way s t n tie d j h before) (some_injective (ap (by_next out t d (way.state d j)) (sym (way.goes d j low before)) ∙ e))
  worker_steps s t u n tie d j low h e (inr same) =
      let step : by_next out t d (way.state d last) (Next out (way.state d last)) ≡ Some u = ap (λ i. by_next out t d (way.state d i) (Next out (way.state d i))) (sym same) ∙ e in
      waits s _ u n (worker_leaves m l last way s t n tie d (h ∙ ap Some same)) (leaves_is t d tie.all_free ∙ some_injective (ap (by_next out t d (way.state d last)) (sym (way.leaves d low)) ∙ step))

  main_meets : (s : SourceState) (t u : Team) (d n : ℕ) → Reaches s → Tie s t n → (mv : Moves out t d u) → d ≡ l.threads → IsMet s 1 n u
  main_meets s t u d n r tie mv is =
      let same : mv.thread ≡ s.main = some_injective (sym mv.at ∙ ap (slice_get t.threads) is ∙ tie.main) in
      let goes = runs_is_not_gone s.returned (sym tie.main_stand ∙ ap (slice_get t.shared.stands) (sym is) ∙ mv.stand) in
      let next : by_next out t d s.main (Next out s.main) ≡ Some u = ap (λ x. by_next out t d x (Next out x)) (sym same) ∙ mv.next in
      let at_main : by_next out t l.threads s.main (Next m s.main) ≡ Some u = ap (λ i. by_next out t i s.main (Next m s.main)) (sym is) ∙ ap (by_next out t d s.main) (sym (next_same m s.main tie.user)) ∙ next in
      main_steps s t u n r tie goes (Next m s.main) (quiet_next m quiet s.main tie.user) refl at_main

  worker_meets : (s : SourceState) (t u : Team) (d n : ℕ) → (tie : Tie s t n) → (mv : Moves out t d u) → d ≢ l.threads → IsMet s 1 n u
  worker_meets s t u d n tie mv apart =
      let within : d < length t.threads = slice_get_within t.threads d mv.thread mv.at in
      let low : d < l.threads = omega (arith, tie.count) in
      let j : ℕ = get_or tie.stages d 0 in
      let at : slice_get tie.stages d ≡ Some j = slice_get-get_or tie.stages d 0 (omega (arith, tie.stage_count)) in
      let same : mv.thread ≡ way.state d j = some_injective (sym mv.at ∙ tie.workers d j at) in
      let runs : j ≤ last = still_runs last j (sym (tie.worker_stands d j at) ∙ mv.stand) in
      worker_steps s t u n tie d j low at (ap (λ x. by_next out t d x (Next out x)) (sym same) ∙ mv.next) (before_or_last j last runs)

  pub each_step : MeetsEach (SourceStep m) (TeamStep out) start Tie 1
  each_step s t u d n r tie e =
      let mv = moves_of out t d u tie.team_goes e in
      elim (cases_eq d l.threads) [ inl is ↦ main_meets s t u d n r tie mv is | inr apart ↦ worker_meets s t u d n tie mv apart ]
