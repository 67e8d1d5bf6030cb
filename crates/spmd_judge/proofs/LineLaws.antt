-- The least of the lines at which something is broken.
use Rattle.std.proofs.Common.{◌≡◌, ◌↔◌, ◌⊎◌, ℕ, ◌+◌, ◌<◌, ◌≤◌, Option, Some, None, inl, inr, sym, subst, arith}
use Rattle.std.proofs.lemmas.Bool.{cases_eq}
use Rattle.spmd_judge.specs.Lines.{IsLeastLine, IsLesser, Below}

-- broken at the same lines
pub least_same : (P Q : ℕ → Type 0) (r : Option ℕ) → ((line : ℕ) → P line ↔ Q line) → IsLeastLine P r → IsLeastLine Q r
least_same P Q None same least = λ line h. least line ((same line).1 h)
least_same P Q (Some n) same least = ((same n).0 least.0, λ other h. least.1 other ((same other).1 h))

-- ---- the lesser of two

module _ (P Q : ℕ → Type 0) where
  abbrev Either : ℕ → Type 0
  Either line = P line ⊎ Q line

  neither : ((line : ℕ) → P line → ⊥) → ((line : ℕ) → Q line → ⊥) → (line : ℕ) → Either line → ⊥
  neither p q line (inl h) = p line h
  neither p q line (inr h) = q line h

  below_both : (x : ℕ) → ((line : ℕ) → P line → x ≤ line) → ((line : ℕ) → Q line → x ≤ line) → (line : ℕ) → Either line → x ≤ line
  below_both x p q line (inl h) = p line h
  below_both x p q line (inr h) = q line h

  second_alone : (b : Option ℕ) → ((line : ℕ) → P line → ⊥) → IsLeastLine Q b → IsLeastLine Either b
  second_alone None p q = neither p q
  second_alone (Some y) p q = (inr q.0, below_both y (λ line h. absurd (p line h)) q.1)

  of_two : (x y : ℕ) (r : Option ℕ) → IsLeastLine P (Some x) → IsLeastLine Q (Some y) → ((x ≤ y) × (r ≡ Some x)) ⊎ ((y ≤ x) × (r ≡ Some y)) → IsLeastLine Either r
  of_two x y r p q (inl h) = subst (λ o. IsLeastLine Either o) (sym h.1) (inl p.0, below_both x p.1 (λ line k. let low = q.1 line k in let order = h.0 in omega (arith, low, order)))
  of_two x y r p q (inr h) = subst (λ o. IsLeastLine Either o) (sym h.1) (inr q.0, below_both y (λ line k. let low = p.1 line k in let order = h.0 in omega (arith, low, order)) q.1)

  lesser_is_least : (a b r : Option ℕ) → IsLesser a b r → IsLeastLine P a → IsLeastLine Q b → IsLeastLine Either r
  lesser_is_least None b r is p q = subst (λ o. IsLeastLine Either o) (sym is) (second_alone b p q)
  lesser_is_least (Some x) None r is p q = subst (λ o. IsLeastLine Either o) (sym is) (inl p.0, below_both x p.1 (λ line h. absurd (q line h)))
  lesser_is_least (Some x) (Some y) r is p q = of_two x y r p q is

-- ---- place by place

module _ (Broken : ℕ → ℕ → Type 0) where
  pub least_none : IsLeastLine (Below Broken 0) None
  least_none line h = let low = h.1 in absurd (omega (arith, low))

  one_more : (n line : ℕ) → Below Broken n line ⊎ Broken n line → Below Broken (n + 1) line
  one_more n line (inl h) = let low = h.1 in (h.0, omega (arith, low), h.2)
  one_more n line (inr h) = (n, omega (arith), h)

  last_or_before : (n line : ℕ) (h : Below Broken (n + 1) line) → (h.0 ≡ n) ⊎ (h.0 ≡ n → ⊥) → Below Broken n line ⊎ Broken n line
  last_or_before n line h (inl e) = inr (subst (λ k. Broken k line) e h.2)
  last_or_before n line h (inr other) = let low = h.1 in inl (h.0, omega (arith, low, other), h.2)

  pub least_more : (n : ℕ) (a b r : Option ℕ) → IsLesser a b r → IsLeastLine (Below Broken n) a → IsLeastLine (Broken n) b → IsLeastLine (Below Broken (n + 1)) r
  least_more n a b r is p q =
      least_same (λ line. Below Broken n line ⊎ Broken n line) (Below Broken (n + 1)) r (λ line. (one_more n line, λ h. last_or_before n line h (cases_eq h.0 n)))
      (lesser_is_least (Below Broken n) (Broken n) a b r is p q)

  pub least_all : (n : ℕ) (r : Option ℕ) → ((at line : ℕ) → Broken at line → at < n) → IsLeastLine (Below Broken n) r → IsLeastLine (λ line. (at : ℕ) × Broken at line) r
  least_all n r low = least_same (Below Broken n) (λ line. (at : ℕ) × Broken at line) r (λ line. (λ h. (h.0, h.2), λ h. (h.0, low h.0 line h.1, h.1)))
