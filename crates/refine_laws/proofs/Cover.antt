-- The team of a kernel with its machine off does what the source does.
use Rattle.std.proofs.Common.{◌≡◌, ℕ, suc, ◌+◌, ◌*◌, ◌<◌, ◌≤◌, List, [], ◌∷◌, ◌++◌, length, Bool, true, false, ◌||◌, Option, Some, None, refl, sym, ap, ◌∙◌, subst, arith, is_some, mul-le-mul}
use Rattle.std.specs.Prelude.{if◌then◌else◌}
use Rattle.std.specs.List.{list_all, list_any}
use Rattle.std.proofs.Math.Nat.{mul-add}
use Rattle.ir_core.specs.declared.module.Module.{Module}
use Rattle.ir_core.specs.declared.module.Global.{Global}
use Rattle.ir_core.specs.FirstForm.{HasFirstForm}
use Rattle.ir_core.specs.MachineOff.{machine_off}
use Rattle.mem_model.specs.declared.launch.Launch.{Launch}
use Rattle.mem_model.specs.declared.launch.Arg.{Arg}
use Rattle.mem_model.specs.declared.launch.Arg.TheVariants.{Buffer, Int as IntArg, Null}
use Rattle.mem_model.specs.declared.memory.BlockName.{BlockName}
use Rattle.mem_model.specs.declared.step.End.{End}
use Rattle.mem_model.specs.declared.step.End.TheVariants.{Running, Ended, Stuck, Trapped as TrappedEnd}
use Rattle.mem_model.specs.Bound.{Counted, whole_bound}
use Rattle.mem_model.specs.Runs.{run, Safe, Covers}
use Rattle.mem_model.specs.Launching.{Fits, threads_limit, buffer_names, global_names, shown_names, counted, Bound}
use Rattle.mem_model.proofs.Simulation.{Meets, meets_run}
use Rattle.source_model.specs.declared.Choice.TheVariants.{Main}
use Rattle.source_model.specs.Source as source
use Rattle.source_model.specs.Source.{SourceState, SourceStep, SourceSystem, source_start, source_end, source_outcome, Trapping, by_choice, while_running, can_go}
use Rattle.team_model.specs.declared.Stand.{Stand}
use Rattle.team_model.specs.declared.Stand.TheVariants.{Runs, Waits, Ended as Gone}
use Rattle.team_model.specs.Team as team
use Rattle.team_model.specs.Team.{Team, TeamStep, TeamSystem, team_start, team_end, team_outcome, is_spmd_function, function_at, is_spmd, is_gone, is_held}
use Rattle.refine_laws.proofs.AlikeMemory.{AllPlain, all_shown_alike}
use Rattle.refine_laws.proofs.ListPlaces.{all_at}
use Rattle.refine_laws.specs.Quiet.{CallsQuietly}
use Rattle.refine_laws.proofs.KernelShape.{minus_one, kernel_shape}
use Rattle.refine_laws.proofs.WayOut.{WayOut}
use Rattle.refine_laws.proofs.Workers.{way_out}
use Rattle.refine_laws.proofs.QuietForm.{quiet_first}
use Rattle.refine_laws.proofs.Relation.{stand_of, is_free, Tied}
use Rattle.refine_laws.proofs.EachStep.{each_step}
use Rattle.refine_laws.proofs.Start.{tied_at_start}

-- ---- how the team ends

held_is_gone : (xs : List Stand) → list_all is_free xs ≡ true → list_all is_held xs ≡ list_all is_gone xs
held_is_gone [] free = refl
held_is_gone (Runs ∷ xs) free = refl
held_is_gone (Gone ∷ xs) free = held_is_gone xs free
held_is_gone (Waits b ∷ xs) free = let f : ⊥ = cc in absurd f

-- what an end tells of the stands
abbrev Tells : List Stand → End → Type 0
Tells xs (TrappedEnd thread line trap) = ⊥
Tells xs Stuck = ⊥
Tells xs Ended = list_all is_gone xs ≡ true
Tells xs Running = Unit {0}

tells_by : (xs : List Stand) (gone held : Bool) → list_all is_gone xs ≡ gone → held ≡ gone → Tells xs (team.end_by None gone held)
tells_by xs true held h e = h
tells_by xs false true h e = let f : ⊥ = cc in absurd f
tells_by xs false false h e = tt

tells : (t : Team) (e : End) → t.shared.trapped ≡ None → list_all is_free t.shared.stands ≡ true → team_end t ≡ e → Tells t.shared.stands e
tells t e goes free is =
    subst (Tells t.shared.stands) (sym (ap (λ o. team.end_by o (list_all is_gone t.shared.stands) (list_all is_held t.shared.stands)) goes) ∙ is)
    (tells_by t.shared.stands (list_all is_gone t.shared.stands) (list_all is_held t.shared.stands) refl (held_is_gone t.shared.stands free))

gone_returns : (b : Bool) → is_gone (stand_of b) ≡ true → b ≡ true
gone_returns true h = refl
gone_returns false h = let f : ⊥ = cc in absurd f

-- the source has ended where its main thread has returned
source_ended : (m : Module) (s : SourceState) → s.trapped ≡ None → s.returned ≡ true → source_end m s ≡ Ended
source_ended m s goes returned =
    ap (λ o. source.end_by o s.returned (is_ready s.returned o)) goes ∙ ap (λ b. source.end_by None b (is_ready b None)) returned
  where
    is_ready : Bool → Option Trapping → Bool
    is_ready returned trapped = is_some (while_running returned trapped (by_choice m s Main)) || list_any can_go s.region

-- ---- what is shown is no capture area

all_plain_both : (xs ys : List BlockName) → AllPlain xs → AllPlain ys → AllPlain (xs ++ ys)
all_plain_both [] ys p q = q
all_plain_both (x ∷ xs) ys p q = (p.0, all_plain_both xs ys p.1 q)

buffers_plain : (i : ℕ) (args : List Arg) → AllPlain (buffer_names i args)
buffers_plain i [] = tt
buffers_plain i (Buffer bytes ∷ args) = (tt, buffers_plain (i + 1) args)
buffers_plain i (IntArg n ∷ args) = buffers_plain (i + 1) args
buffers_plain i (Null ∷ args) = buffers_plain (i + 1) args

plain_by : (constant : Bool) (xs ys : List BlockName) → AllPlain xs → AllPlain ys → AllPlain (if constant then xs else ys)
plain_by true xs ys p q = p
plain_by false xs ys p q = q

globals_plain : (i : ℕ) (gs : List Global) → AllPlain (global_names i gs)
globals_plain i [] = tt
globals_plain i (g ∷ gs) = plain_by g.constant _ _ (globals_plain (i + 1) gs) (tt, globals_plain (i + 1) gs)

shown_plain : (m : Module) (l : Launch) → AllPlain (shown_names m l)
shown_plain m l = all_plain_both (buffer_names 0 l.args) (global_names 0 m.globals) (buffers_plain 0 l.args) (globals_plain 0 m.globals)

-- ---- the bound

few_threads : (n : ℕ) → n ≤ threads_limit → n < minus_one
unfolding threads_limit
few_threads n h = omega arith

product_above : (b t m n : ℕ) → (t + 1) * 4 ≤ b → n ≤ m + 4 * t → n ≤ b * (m + 2)
product_above b t m n large small = let p : 1 * m ≤ b * m = mul-le-mul (omega arith) (omega arith) in let q = mul-add b m 2 in omega arith

-- so many steps of each worker beside the source's
abbrev pub with_workers : ℕ → ℕ → ℕ → ℕ
with_workers steps t m = m + steps * t

below_bound : (c : Counted) (m n : ℕ) → n ≤ with_workers 4 c.threads m → n ≤ whole_bound c m
below_bound c m n small = product_above ((c.threads + 1) * (512 + 32 * c.wrappers + 128 * c.captures)) c.threads m n (mul-le-mul (omega arith) (omega arith)) small

-- a larger bound
pub covers_more : {O : Type 0} (new old : ℕ → End → O → Type 0) (f g : ℕ → ℕ) → ((m n : ℕ) → n ≤ f m → n ≤ g m) → Covers new old f → Covers new old g
covers_more new old f g more c = record {
  no_trap = c.no_trap;
  outcome = c.outcome;
  stuck = c.stuck;
  steps = λ safe n e o comes. let x = c.steps safe n e o comes in (x.0, x.1, x.2, x.3, more x.0 n x.4);
}

-- ---- a module that calls quietly, each of whose workers leaves behind so many other steps

module _ (m : Module) (l : Launch) (last : ℕ) (way : WayOut (machine_off m) l last) (generic : is_spmd m l ≡ false) (quiet : CallsQuietly m) where
  abbrev Tie : SourceState → Team → ℕ → Type 0
  Tie = Tied m l last way

  same_outcome : (s : SourceState) (t : Team) (n : ℕ) → Tie s t n → team_outcome m l t ≡ source_outcome m l s
  same_outcome s t n r = λ i. record { prints = r.prints i; blocks = all_shown_alike s.common.memory t.shared.common.memory r.memory (shown_names m l) (shown_plain m l) i }

  -- a schedule of the team has a schedule of the source
  pub meets : Safe (SourceSystem m l 0) → (ds : List ℕ) (u : Team) → run (TeamStep (machine_off m)) ds (team_start (machine_off m) l) ≡ Some u →
      Meets (SourceStep m) (TeamStep (machine_off m)) (source_start m l 0) Tie 1 (source_start m l 0) (length ds) (suc last * l.threads) u
  meets safe ds u e =
      meets_run (SourceStep m) (TeamStep (machine_off m)) (source_start m l 0) Tie 1 (each_step m l last way quiet safe) ds (source_start m l 0) (team_start (machine_off m) l) u (suc last * l.threads) ([], refl) (tied_at_start m l last way generic) e

  pub covered : Covers (TeamSystem m (machine_off m) l) (SourceSystem m l 0) (with_workers (suc last) l.threads)
  covered = record {
    no_trap = λ safe n o thread line trap (c : TeamSystem m (machine_off m) l n (TrappedEnd thread line trap) o).
        let r = meets safe c.0 c.1 c.3 in
        tells c.1 (TrappedEnd thread line trap) r.alike.team_goes r.alike.all_free c.4;
    outcome = λ safe n o (c : TeamSystem m (machine_off m) l n Ended o).
        let r = meets safe c.0 c.1 c.3 in
        let returned = gone_returns r.state.returned (all_at is_gone c.1.shared.stands l.threads (stand_of r.state.returned) (tells c.1 Ended r.alike.team_goes r.alike.all_free c.4) r.alike.main_stand) in
        (length r.choices, (r.choices, r.state, refl, r.runs, source_ended m r.state r.alike.source_goes returned, sym (same_outcome r.state c.1 r.paid_after r.alike) ∙ c.5));
    stuck = λ safe n o (c : TeamSystem m (machine_off m) l n Stuck o). let r = meets safe c.0 c.1 c.3 in absurd (tells c.1 Stuck r.alike.team_goes r.alike.all_free c.4);
    steps = λ safe n e o (c : TeamSystem m (machine_off m) l n e o).
        let r = meets safe c.0 c.1 c.3 in
        (length r.choices, source_end m r.state, source_outcome m l r.state, (r.choices, r.state, refl, r.runs, refl, refl), omega (arith, c.2, r.pays));
  }

-- a kernel of the first form runs in generic mode
pub is_generic : (m : Module) (l : Launch) → HasFirstForm m → Fits m l → is_spmd m l ≡ false
is_generic m l form fits =
    let shape = kernel_shape true m form fits.place fits.function fits.there fits.is_kernel in
    ap (λ o. is_spmd_function (function_at m o)) fits.named ∙ ap is_spmd_function fits.there ∙ shape.generic

-- and has its source's outcomes
pub machine_off_covers : (m : Module) (l : Launch) → HasFirstForm m → Fits m l → Covers (TeamSystem m (machine_off m) l) (SourceSystem m l 0) (Bound m l)
machine_off_covers m l form fits =
    let shape = kernel_shape true m form fits.place fits.function fits.there fits.is_kernel in
    let way = way_out m l fits.place fits.function fits.there shape fits.named (few_threads l.threads fits.threads.1) in
    covers_more (TeamSystem m (machine_off m) l) (SourceSystem m l 0) (with_workers 4 l.threads) (Bound m l) (below_bound (counted m l)) (covered m l 3 way (is_generic m l form fits) (quiet_first true m form))
