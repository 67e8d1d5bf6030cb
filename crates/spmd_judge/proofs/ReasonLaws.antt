-- The rules that are broken, by rising numbers.
use Rattle.std.proofs.Common.{◌≡◌, ◌⊎◌, ℕ, zero, suc, ◌+◌, ◌<◌, ◌≤◌, List, [], ◌∷◌, ◌++◌, length, map, Option, Some, None, slice_get, inl, inr, refl, sym, ap, subst, ◌∙◌, arith}
use Rattle.std.proofs.lemmas.Bool.{cases_eq}
use Rattle.std.proofs.lemmas.Option.{same_Some, slice_get_within}
use Rattle.ir_core.specs.declared.module.Module.{Module}
use Rattle.call_graph.proofs.ListLaws.{in_front, behind}
use Rattle.spmd_rules.specs.Rules.{Breaks, Conditions, Reason, IsReason, AreReasons}
use Rattle.spmd_judge.specs.declared.judging.Reason.{Reason as Told}
use Rattle.spmd_judge.specs.Lines.{IsLeastLine}
use Rattle.spmd_judge.specs.Verdicts.{AreReasonsBelow, reason_seen, reasons_seen}

pub is_none : (o : Option ℕ) → ((line : ℕ) → o ≡ Some line → ⊥) → o ≡ None
is_none None differs = refl
is_none (Some line) differs = absurd (differs line refl)

-- ---- one more item

at_end : {A : Type 0} (xs : List A) (y z : A) (k : ℕ) → slice_get (xs ++ y ∷ []) k ≡ Some z → (slice_get xs k ≡ Some z) ⊎ ((z ≡ y) × (k ≡ length xs))
at_end [] y z zero e = inr (sym (same_Some y z e), refl)
at_end [] y z (suc k) e = let f : ⊥ = cc in absurd f
at_end (x ∷ xs) y z zero e = inl e
at_end (x ∷ xs) y z (suc k) e = elim (at_end xs y z k e) [ inl h ↦ inl h | inr h ↦ inr (h.0, ap suc h.1) ]

mapped_more : {A B : Type 0} (f : A → B) (xs : List A) (y : A) → map f (xs ++ y ∷ []) ≡ map f xs ++ f y ∷ []
mapped_more f [] y = refl
mapped_more f (x ∷ xs) y = ap (λ ys. f x ∷ ys) (mapped_more f xs y)

same_reason : (r s : Reason) → r.rule ≡ s.rule → r.line ≡ s.line → r ≡ s
same_reason r s p q = λ i. record { rule = p i; line = q i }

module _ (m : Module) (kernel : ℕ) where
  positive : (rule line : ℕ) → Breaks m kernel rule line → 1 ≤ rule
  positive rule line (inl h) = let e = h.0 in omega (arith, e)
  positive rule line (inr (inl h)) = let e = h.0 in omega (arith, e)
  positive rule line (inr (inr (inl h))) = let e = h.0 in omega (arith, e)
  positive rule line (inr (inr (inr (inl h)))) = let e = h.0 in omega (arith, e)
  positive rule line (inr (inr (inr (inr (inl h))))) = let e = h.0 in omega (arith, e)
  positive rule line (inr (inr (inr (inr (inr h))))) = let e = h.0 in omega (arith, e)

  below_seven : (rule line : ℕ) → Breaks m kernel rule line → rule < 7
  below_seven rule line (inl h) = let e = h.0 in omega (arith, e)
  below_seven rule line (inr (inl h)) = let e = h.0 in omega (arith, e)
  below_seven rule line (inr (inr (inl h))) = let e = h.0 in omega (arith, e)
  below_seven rule line (inr (inr (inr (inl h)))) = let e = h.0 in omega (arith, e)
  below_seven rule line (inr (inr (inr (inr (inl h))))) = let e = h.0 in omega (arith, e)
  below_seven rule line (inr (inr (inr (inr (inr h))))) = let e = h.0 in omega (arith, e)

  -- ---- rule by rule

  pub none_yet : AreReasonsBelow m kernel 1 []
  none_yet = record {
    rising = λ place r s e d. let f : ⊥ = cc in absurd f;
    told = λ place r e. let f : ⊥ = cc in absurd f;
    all = λ other line broken low. let high = positive other line broken in absurd (omega (arith, high, low));
  }

  module _ (rule : ℕ) (rs : List Reason) (below : AreReasonsBelow m kernel rule rs) where
    not_broken : ((line : ℕ) → Breaks m kernel rule line → ⊥) → (other line : ℕ) → Breaks m kernel other line → other < rule + 1 → (other ≡ rule) ⊎ (other ≡ rule → ⊥) → (place : ℕ) × (r : Reason) × (slice_get rs place ≡ Some r) × (r.rule ≡ other)
    not_broken never other line broken low (inl e) = absurd (never line (subst (λ k. Breaks m kernel k line) e broken))
    not_broken never other line broken low (inr differs) = below.all other line broken (omega (arith, low, differs))

    kept : ((line : ℕ) → Breaks m kernel rule line → ⊥) → AreReasonsBelow m kernel (rule + 1) rs
    kept never = record {
      rising = below.rising;
      told = λ place r e. let t = below.told place r e in let low = t.1 in (t.0, omega (arith, low));
      all = λ other line broken low. not_broken never other line broken low (cases_eq other rule);
    }

    module _ (new : Reason) (is : IsReason m kernel new) (same : new.rule ≡ rule) where
      rises : (place : ℕ) (r s : Reason) → (slice_get rs place ≡ Some r) ⊎ ((r ≡ new) × (place ≡ length rs)) → (slice_get rs (suc place) ≡ Some s) ⊎ ((s ≡ new) × (suc place ≡ length rs)) → r.rule < s.rule
      rises place r s (inl a) (inl b) = below.rising place r s a b
      rises place r s (inl a) (inr b) = let low = (below.told place r a).1 in let e : s.rule ≡ rule = ap (λ (t : Reason). t.rule) b.0 ∙ same in omega (arith, low, e)
      rises place r s (inr a) (inl b) = let low = slice_get_within rs (suc place) s b in let e = a.1 in absurd (omega (arith, low, e))
      rises place r s (inr a) (inr b) = let d = b.1 in let e = a.1 in absurd (omega (arith, d, e))

      is_told : (place : ℕ) (r : Reason) → (slice_get rs place ≡ Some r) ⊎ ((r ≡ new) × (place ≡ length rs)) → IsReason m kernel r × (r.rule < rule + 1)
      is_told place r (inl a) = let t = below.told place r a in let low = t.1 in (t.0, omega (arith, low))
      is_told place r (inr a) = let e : r.rule ≡ rule = ap (λ (t : Reason). t.rule) a.0 ∙ same in (subst (λ (t : Reason). IsReason m kernel t) (sym a.0) is, omega (arith, e))

      all_told : (other line : ℕ) → Breaks m kernel other line → other < rule + 1 → (other ≡ rule) ⊎ (other ≡ rule → ⊥) → (place : ℕ) × (r : Reason) × (slice_get (rs ++ new ∷ []) place ≡ Some r) × (r.rule ≡ other)
      all_told other line broken low (inl e) = let a = behind rs (new ∷ []) new (zero, refl) in (a.0, new, a.1, same ∙ sym e)
      all_told other line broken low (inr differs) =
          let t = below.all other line broken (omega (arith, low, differs)) in
          let a = in_front rs (new ∷ []) t.1 (t.0, t.2) in
          (a.0, t.1, a.1, t.3)

      one_more : AreReasonsBelow m kernel (rule + 1) (rs ++ new ∷ [])
      one_more = record {
        rising = λ place r s a b. rises place r s (at_end rs new r place a) (at_end rs new s (suc place) b);
        told = λ place r e. is_told place r (at_end rs new r place e);
        all = λ other line broken low. all_told other line broken low (cases_eq other rule);
      }

  -- a rule that is not broken, and one that is
  pub reason_kept : (rule : ℕ) (old : List Told) → AreReasonsBelow m kernel rule (reasons_seen old) → IsLeastLine (Breaks m kernel rule) None → AreReasonsBelow m kernel (rule + 1) (reasons_seen old)
  reason_kept rule old below never = kept rule (reasons_seen old) below never

  pub reason_added : (rule line : ℕ) (old new : List Told) → AreReasonsBelow m kernel rule (reasons_seen old) → IsLeastLine (Breaks m kernel rule) (Some line)
      → new ≡ old ++ (record { rule = rule; line = line }) ∷ [] → AreReasonsBelow m kernel (rule + 1) (reasons_seen new)
  reason_added rule line old new below least is =
      let told : Told = record { rule = rule; line = line } in
      let seen : reasons_seen new ≡ reasons_seen old ++ reason_seen told ∷ [] = ap reasons_seen is ∙ mapped_more reason_seen old told in
      subst (λ rs. AreReasonsBelow m kernel (rule + 1) rs) (sym seen) (one_more rule (reasons_seen old) below (reason_seen told) least refl)

  -- ---- all rules

  pub no_reasons : (rs : List Told) → rs ≡ [] → AreReasonsBelow m kernel 7 (reasons_seen rs) → Conditions m kernel
  no_reasons rs empty below = λ rule line broken.
      let a = below.all rule line broken (below_seven rule line broken) in
      let there : slice_get (reasons_seen []) a.0 ≡ Some a.1 = subst (λ (ts : List Told). slice_get (reasons_seen ts) a.0 ≡ Some a.1) empty a.2 in
      let f : ⊥ = cc in
      f

  module _ (rs : List Reason) (below : AreReasonsBelow m kernel 7 rs) where
    one_line : (r s : Reason) → IsReason m kernel r → IsReason m kernel s → s.rule ≡ r.rule → s.line ≡ r.line
    one_line r s is_r is_s e =
        let low = is_s.1 r.line (subst (λ k. Breaks m kernel k r.line) (sym e) is_r.0) in
        let high = is_r.1 s.line (subst (λ k. Breaks m kernel k s.line) e is_s.0) in
        omega (arith, low, high)

    stands : (r : Reason) → IsReason m kernel r → (place : ℕ) × (slice_get rs place ≡ Some r)
    stands r is =
        let a = below.all r.rule r.line is.0 (below_seven r.rule r.line is.0) in
        let t = below.told a.0 a.1 a.2 in
        (a.0, a.2 ∙ ap Some (same_reason a.1 r a.3 (one_line r a.1 is t.0 a.3)))

    pub are_reasons : AreReasons m kernel rs
    are_reasons = record {
      rising = below.rising;
      same = λ r. (λ h. (below.told h.0 r h.1).0, stands r);
    }
