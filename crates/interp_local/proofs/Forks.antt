-- Forks: what their operands give, and whether they go.
use Rattle.std.proofs.Common.{◌≡◌, ℕ, zero, suc, ◌+◌, ◌<◌, ◌≤◌, ◌^◌, Bool, true, false, arith, List, [], ◌∷◌, length, map, slice_get, Option, Some, None, Result, Ok, Err, refl, sym, ap, ◌∙◌, subst}
use Rattle.std.specs.Prelude.{if◌then◌else◌}
use Rattle.ir_core.specs.declared.instructions.Value.{Value}
use Rattle.ir_core.specs.declared.instructions.Value.TheVariants.{Global as GlobalValue}
use Rattle.ir_core.specs.declared.instructions.Typed.{Typed}
use Rattle.ir_core.specs.declared.module.Module.{Module}
use Rattle.ir_core.specs.Places.{Name, place_from, place_in, function_name, function_place}
use Rattle.std.proofs.lemmas.List.{length-map}
use Rattle.mem_model.specs.declared.memory.Word.{Word}
use Rattle.mem_model.specs.declared.memory.Ptr.{Ptr}
use Rattle.mem_model.specs.declared.step.Trap.{Trap}
use Rattle.mem_model.specs.declared.step.Trap.TheVariants.{Unreachable}
use Rattle.mem_model.specs.Values.{and_then}
use Rattle.mem_model.specs.Next.{NextStep, Pending, Event, with_found}
use Rattle.mem_model.specs.Regions.{Fork, fork_by, fork_of, function_named, number_given}
use Rattle.mem_model.proofs.Runs.{some_injective}
use Rattle.thread_state.proofs.Assigned.{place_range}
use Rattle.captures.specs.declared.forks.Fork.{Fork as ForkData}
use Rattle.captures.specs.Forks.{fork_seen, fork_data}
use Rattle.thread_state.specs.declared.state.ThreadState.{ThreadState as ThreadData}
use Rattle.interp_local.specs.declared.actions.Action.{Action}
use Rattle.interp_local.specs.declared.actions.Action.TheVariants.{Forks}
use Rattle.interp_local.specs.declared.steps.Own.{Own}
use Rattle.interp_local.specs.declared.steps.Own.TheVariants.{Went, Event as AnEvent, Done}
use Rattle.interp_local.specs.Operands.{AreFew}
use Rattle.interp_local.specs.Actions.{fork_action}
use Rattle.interp_local.specs.Steps.{FewCaptured}
use Rattle.interp_local.specs.Runs.{Tells}

-- ---- the action

pub forked : (r : Result (List Word) Trap) (o : Option Fork) (w : Option Word) (fork : ForkData) → Ok w ≡ and_then r (λ words. Ok (slice_get words 7)) → Some (fork_seen fork) ≡ o → Ok (Action.Forks fork w) ≡ and_then r (fork_action o)
forked (Err x) o w fork e is = let f : ⊥ = cc in absurd f
forked (Ok words) None w fork e is = let f : ⊥ = cc in absurd f
forked (Ok words) (Some g) w fork e is =
    let same : w ≡ slice_get words 7 = cc in
    let same_fork = some_injective is in
    λ i. Ok (Action.Forks (fork_data (same_fork i)) (same i))

pub not_forked : (r : Result (List Word) Trap) (o : Option Fork) (w : Option Word) → Ok w ≡ and_then r (λ words. Ok (slice_get words 7)) → None ≡ o → Err Unreachable ≡ and_then r (fork_action o)
not_forked (Err x) o w e is = let f : ⊥ = cc in absurd f
not_forked (Ok words) None w e is = refl
not_forked (Ok words) (Some g) w e is = let f : ⊥ = cc in absurd f

pub unread : (r : Result (List Word) Trap) (o : Option Fork) (x : Trap) → Err x ≡ and_then r (λ words. Ok (slice_get words 7)) → Err x ≡ and_then r (fork_action o)
unread (Err y) o x e = let same : x ≡ y = cc in ap Err same
unread (Ok words) o x e = let f : ⊥ = cc in absurd f

-- ---- what a fork names fits

named_within : (m : Module) (v : Value) (k : ℕ) → function_named m v ≡ Some k → k < length m.functions
named_within m (GlobalValue x) k e =
    let low = (place_range 0 (map function_name m.functions) x k e).1 in
    let size = length-map m.functions function_name in
    omega arith
named_within m _ k e = let f : ⊥ = cc in absurd f

fits_by : (m : Module) (f w : Option ℕ) (c : Option ℕ) (fork : Fork) → ((k : ℕ) → w ≡ Some k → k < length m.functions) → ((n : ℕ) → c ≡ Some n → n ≤ 64) → fork_by f w c ≡ Some fork → (fork.count ≤ 64) × (fork.wrapper < length m.functions)
fits_by m (Some f) (Some w) (Some c) fork wrapper count e =
    let same = some_injective e in
    (subst (λ (g : Fork). g.count ≤ 64) same (count c refl), subst (λ (g : Fork). g.wrapper < length m.functions) same (wrapper w refl))
fits_by m None w c fork wrapper count e = let f : ⊥ = cc in absurd f
fits_by m (Some f) None c fork wrapper count e = let g : ⊥ = cc in absurd g
fits_by m (Some f) (Some w) None fork wrapper count e = let g : ⊥ = cc in absurd g

fork_within : (m : Module) (operands : List Typed) (fork : Fork) → FewCaptured operands → fork_of m operands ≡ Some fork → (fork.count ≤ 64) × (fork.wrapper < length m.functions)
fork_within m (place ∷ number ∷ test ∷ threads ∷ bind ∷ function ∷ wrapper ∷ words ∷ n ∷ []) fork few e =
    fits_by m (function_named m function.value) (function_named m wrapper.value) (number_given n.value) fork (named_within m wrapper.value) (λ k is. few n k refl is) e
fork_within m [] fork few e = let f : ⊥ = cc in absurd f
fork_within m (a ∷ []) fork few e = let f : ⊥ = cc in absurd f
fork_within m (a ∷ b ∷ []) fork few e = let f : ⊥ = cc in absurd f
fork_within m (a ∷ b ∷ c ∷ []) fork few e = let f : ⊥ = cc in absurd f
fork_within m (a ∷ b ∷ c ∷ d ∷ []) fork few e = let f : ⊥ = cc in absurd f
fork_within m (a ∷ b ∷ c ∷ d ∷ g ∷ []) fork few e = let f : ⊥ = cc in absurd f
fork_within m (a ∷ b ∷ c ∷ d ∷ g ∷ h ∷ []) fork few e = let f : ⊥ = cc in absurd f
fork_within m (a ∷ b ∷ c ∷ d ∷ g ∷ h ∷ j ∷ []) fork few e = let f : ⊥ = cc in absurd f
fork_within m (a ∷ b ∷ c ∷ d ∷ g ∷ h ∷ j ∷ k ∷ []) fork few e = let f : ⊥ = cc in absurd f
fork_within m (a ∷ b ∷ c ∷ d ∷ g ∷ h ∷ j ∷ k ∷ l ∷ n ∷ more) fork few e = let f : ⊥ = cc in absurd f

pub fork_fits : (m : Module) (operands : List Typed) (fork : ForkData) → AreFew m → FewCaptured operands → Some (fork_seen fork) ≡ fork_of m operands → (fork.count ≤ 64) × (fork.wrapper < 2 ^ 32)
fork_fits m operands fork few captured e =
    let p = fork_within m operands (fork_seen fork) captured (sym e) in
    let many = few.functions in
    let low = p.1 in
    (p.0, omega arith)

-- ---- a fork is no step of the thread's own

module _ (waits : Event) (goes : List Ptr → Event) where
  abbrev pub forks_by : Bool → Result (List Ptr) Trap → NextStep
  forks_by enters r = if enters then Pending waits else with_found r (λ ps. Pending (goes ps))

  pub never_local : (enters : Bool) (r : Result (List Ptr) Trap) → Tells (forks_by enters r) (Ok Went) → ⊥
  never_local true r h = h
  never_local false (Ok ps) h = h
  never_local false (Err x) h = h
