-- Runs and covers.
use Rattle.std.proofs.Common.{◌≡◌, ℕ, ◌≤◌, List, [], ◌∷◌, ◌++◌, Option, Some, None, refl, ap, arith}
use Rattle.mem_model.specs.declared.step.End.{End}
use Rattle.mem_model.specs.Runs.{run, then_run, Covers}

some_or : {A : Type 0} (d : A) → Option A → A
some_or d None = d
some_or d (Some x) = x

pub some_injective : {A : Type 0} {x y : A} → Some x ≡ Some y → x ≡ y
unfolding some_or
some_injective {x = x} e = ap (some_or x) e

pub none_is_not_some : {A : Type 0} {x : A} {B : Type 0} → ◌≡◌ {A = Option A} None (Some x) → B
none_is_not_some {A} {x} {B} e = let f : ⊥ = cc in absurd f

append_from : {S : Type 0} (o : Option S) (all front back : S → Option S) → ((s : S) → all s ≡ then_run (front s) back) → then_run o all ≡ then_run (then_run o front) back
append_from None all front back h = refl
append_from (Some s) all front back h = h s

-- a run of a schedule cut in two is the run of the second part from the state after the first
pub run-append : {S C : Type 0} (step : S → C → Option S) (cs ds : List C) (s : S) → run step (cs ++ ds) s ≡ then_run (run step cs s) (run step ds)
run-append step [] ds s = refl
run-append step (c ∷ cs) ds s = append_from (step s c) (run step (cs ++ ds)) (run step cs) (run step ds) (run-append step cs ds)

-- a system covers itself
pub covers_itself : {O : Type 0} (old : ℕ → End → O → Type 0) → Covers old old (λ m. m)
covers_itself old = record {
  no_trap = λ safe. safe;
  outcome = λ safe n o comes. (n, comes);
  stuck = λ safe n o comes. (n, o, comes);
  steps = λ safe n e o comes. (n, e, o, comes, omega arith);
}

-- what new does mid does, and what mid does old does
pub covers_chain : {O : Type 0} (new mid old : ℕ → End → O → Type 0) (f g : ℕ → ℕ) → ((m n : ℕ) → m ≤ n → f m ≤ f n) → Covers new mid f → Covers mid old g → Covers new old (λ m. f (g m))
covers_chain new mid old f g rises first second = record {
  no_trap = λ safe. first.no_trap (second.no_trap safe);
  outcome = λ safe n o comes. let x = first.outcome (second.no_trap safe) n o comes in second.outcome safe x.0 o x.1;
  stuck = λ safe n o comes. let x = first.stuck (second.no_trap safe) n o comes in second.stuck safe x.0 x.1 x.2;
  steps = λ safe n e o comes.
      let x = first.steps (second.no_trap safe) n e o comes in
      let y = second.steps safe x.0 x.1 x.2 x.3 in
      (y.0, y.1, y.2, y.3, let z = rises x.0 (g y.0) y.4 in omega (arith, x.4));
}
