-- Runs of a machine by a schedule, and what it means that one system covers another.
use Rattle.std.specs.Prelude.{◌≡◌, ℕ, ◌≤◌, List, [], ◌∷◌, length, Option, Some, None}
use Rattle.mem_model.specs.declared.step.End.{End}
use Rattle.mem_model.specs.declared.step.End.TheVariants.{Ended, Stuck, Trapped}
use Rattle.mem_model.specs.declared.step.Trap.{Trap}

abbrev pub then_run : {S : Type 0} → Option S → (S → Option S) → Option S
then_run None go = None
then_run (Some s) go = go s

-- the state after a schedule; none where a choice wasn't ready
abbrev pub run : {S C : Type 0} → (S → C → Option S) → List C → S → Option S
run step [] s = Some s
run step (c ∷ cs) s = then_run (step s c) (run step cs)

-- a system: some schedule of so many steps comes to an end of this kind with this outcome
abbrev pub System : Type 0 → Type 1
System O = ℕ → End → O → Type 0

abbrev pub Comes : {S C O : Type 0} → (S → C → Option S) → S → (S → End) → (S → O) → System O
Comes {S} {C} step start end outcome n e o = (schedule : List C) × (s : S) × (length schedule ≡ n) × (run step schedule start ≡ Some s) × (end s ≡ e) × (outcome s ≡ o)

-- no schedule traps
abbrev pub Safe : {O : Type 0} → (ℕ → End → O → Type 0) → Type 0
Safe {O} old = (n : ℕ) (o : O) (thread line : ℕ) (trap : Trap) → old n (Trapped thread line trap) o → ⊥

-- where no schedule of old traps: new doesn't trap; each of its ended schedules has the outcome of one of old's;
-- it is stuck only where old is; and it has no more steps than g allows for a schedule of old
pub record Covers {O : Type 0} (new old : ℕ → End → O → Type 0) (g : ℕ → ℕ) : Type 0 where
  pub no_trap : Safe old → Safe new
  pub outcome : Safe old → (n : ℕ) (o : O) → new n Ended o → (m : ℕ) × old m Ended o
  pub stuck : Safe old → (n : ℕ) (o : O) → new n Stuck o → (m : ℕ) × (p : O) × old m Stuck p
  pub steps : Safe old → (n : ℕ) (e : End) (o : O) → new n e o → (m : ℕ) × (d : End) × (p : O) × old m d p × (n ≤ g m)
