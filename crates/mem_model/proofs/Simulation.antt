-- A simulation, once for all machines: where each step of the new machine is met by steps of the old one, so is each run.
use Rattle.std.proofs.Common.{◌≡◌, ℕ, suc, ◌+◌, ◌*◌, ◌≤◌, List, [], ◌∷◌, ◌++◌, length, Option, Some, None, refl, ap, ◌∙◌, subst, arith, length-append}
use Rattle.std.proofs.Math.Nat.{mul-add}
use Rattle.mem_model.specs.Runs.{run, then_run}
use Rattle.mem_model.proofs.Runs.{some_injective, none_is_not_some, run-append}

-- IsAlike s t n: the old state s stands for the new state t, and n new steps are paid for already; an old step pays for k new ones
module _ {S T C D : Type 0} (old : S → C → Option S) (new : T → D → Option T) (start : S) (IsAlike : S → T → ℕ → Type 0) (k : ℕ) where
  -- an old state that a schedule comes to
  abbrev pub IsReached : S → Type 0
  IsReached s = (before : List C) × (run old before start ≡ Some s)

  -- old steps from s to a state that stands for u, which pay for so many new steps beside what was paid before
  pub record Meets (s : S) (steps paid_before : ℕ) (u : T) : Type 0 where
    pub choices : List C
    pub state : S
    pub paid_after : ℕ
    pub runs : run old choices s ≡ Some state
    pub alike : IsAlike state u paid_after
    pub pays : steps + paid_after ≤ k * length choices + paid_before

  -- each new step is met by old ones
  abbrev pub MeetsEach : Type 0
  MeetsEach = (s : S) (t u : T) (d : D) (n : ℕ) → IsReached s → IsAlike s t n → new t d ≡ Some u → Meets s 1 n u

  pub reached_then : (s s1 : S) (cs : List C) → IsReached s → run old cs s ≡ Some s1 → IsReached s1
  reached_then s s1 cs r e = (r.0 ++ cs, run-append old r.0 cs start ∙ ap (λ o. then_run o (run old cs)) r.1 ∙ e)

  both_meet : (s : S) (n before : ℕ) (t u : T) (a : Meets s 1 before t) → Meets a.state n a.paid_after u → Meets s (suc n) before u
  both_meet s n before t u a b = record {
    choices = a.choices ++ b.choices;
    state = b.state;
    paid_after = b.paid_after;
    runs = run-append old a.choices b.choices s ∙ ap (λ o. then_run o (run old b.choices)) a.runs ∙ b.runs;
    alike = b.alike;
    pays = omega (arith, mul-add k (length a.choices) (length b.choices), ap (λ n. k * n) (length-append a.choices b.choices));
  }

  first_meets : (d : D) (ds : List D) (s : S) (t u : T) (n : ℕ) → IsReached s → IsAlike s t n → MeetsEach → ((s1 : S) (t1 : T) (n1 : ℕ) → IsReached s1 → IsAlike s1 t1 n1 → run new ds t1 ≡ Some u → Meets s1 (length ds) n1 u) →
      (o : Option T) → new t d ≡ o → then_run o (run new ds) ≡ Some u → Meets s (suc (length ds)) n u
  first_meets d ds s t u n r a each rest None h e = none_is_not_some e
  first_meets d ds s t u n r a each rest (Some t1) h e =
      let m = each s t t1 d n r a h in
      both_meet s (length ds) n t1 u m (rest m.state t1 m.paid_after (reached_then s m.state m.choices r m.runs) m.alike e)

  -- each new run is met
  pub meets_run : MeetsEach → (ds : List D) (s : S) (t u : T) (n : ℕ) → IsReached s → IsAlike s t n → run new ds t ≡ Some u → Meets s (length ds) n u
  meets_run each [] s t u n r a e = record { choices = []; state = s; paid_after = n; runs = refl; alike = subst (λ x. IsAlike s x n) (some_injective e) a; pays = omega arith }
  meets_run each (d ∷ ds) s t u n r a e = first_meets d ds s t u n r a each (λ s1 t1 n1 r1 a1 e1. meets_run each ds s1 t1 u n1 r1 a1 e1) (new t d) refl e
