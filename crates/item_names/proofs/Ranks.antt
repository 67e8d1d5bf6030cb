-- A type whose parts all have lower ranks is on no circle, where no part has a greater rank than its type.
use Rattle.std.proofs.Common.{◌≡◌, ℕ, zero, suc, ◌+◌, ◌≤◌, List, [], ◌∷◌, Bool, true, false, ◌||◌, ◌&&◌, not, refl, sym, ap, ◌∙◌, subst, if◌then◌else◌, nat_lt, nat_le, ◌==◌, arith}
use Rattle.std.proofs.lemmas.Bool.Decides.{nat_tests}
use Rattle.std.specs.List.{list_any, list_all}
use Rattle.item_names.specs.Circles.{parts_at, has, leads, rank_at, are_below, descends_from, may_lead}
use Rattle.item_names.proofs.Ways.{Passes, any_from, any_to, none_in, same_of, true_or_false}

and_left : (a b : Bool) → (a && b) ≡ true → a ≡ true
and_left true b e = refl
and_left false b e = e

and_right : (a b : Bool) → (a && b) ≡ true → b ≡ true
and_right true b e = e
and_right false b e = true_or_false false e refl

all_to : (test : ℕ → Bool) (xs : List ℕ) (x : ℕ) → list_all test xs ≡ true → has x xs ≡ true → test x ≡ true
all_to test [] x e in_ = none_in x in_
all_to test (y ∷ xs) x e in_ = by (y == x) refl (all_to test xs x (and_right (test y) (list_all test xs) e))
  where
    by : (b : Bool) → (y == x) ≡ b → (has x xs ≡ true → test x ≡ true) → test x ≡ true
    by true s rest = ap test (sym (same_of y x s)) ∙ and_left (test y) (list_all test xs) e
    by false s rest = rest (sym (ap (λ b. b || has x xs) s) ∙ in_)

not_less : (a b : ℕ) → not (nat_lt a b) ≡ true → b ≤ a
not_less a b e = grind (arith, nat_tests)

no_greater : (ranks : List ℕ) (k : ℕ) (parts : List (List ℕ)) (i r : ℕ) → descends_from k parts ranks ≡ true → has r (parts_at parts i) ≡ true → rank_at ranks r ≤ rank_at ranks (k + i)
no_greater ranks k [] i r e in_ = none_in r in_
no_greater ranks k (places ∷ parts) zero r e in_ =
    let below = all_to (λ q. not (nat_lt (rank_at ranks k) (rank_at ranks q))) places r (and_left (are_below ranks k places) (descends_from (k + 1) parts ranks) e) in_ in
    let same : k ≡ k + 0 = omega arith in
    subst (λ n. rank_at ranks r ≤ rank_at ranks n) same (not_less (rank_at ranks k) (rank_at ranks r) below)
no_greater ranks k (places ∷ parts) (suc i) r e in_ =
    let same : k + 1 + i ≡ k + suc i = omega arith in
    subst (λ n. rank_at ranks r ≤ rank_at ranks n) same (no_greater ranks (k + 1) parts i r (and_right (are_below ranks k places) (descends_from (k + 1) parts ranks) e) in_)

module _ (parts : List (List ℕ)) (ranks : List ℕ) (at : ℕ) (descends : descends_from 0 parts ranks ≡ true) where
  lower : (q r : ℕ) → has r (parts_at parts q) ≡ true → rank_at ranks r ≤ rank_at ranks q
  lower q r in_ = let same : 0 + q ≡ q = omega arith in subst (λ n. rank_at ranks r ≤ rank_at ranks n) same (no_greater ranks 0 parts q r descends in_)

  -- what leads to a type has no lower rank
  high : (n q : ℕ) → leads parts at n q ≡ true → rank_at ranks at ≤ rank_at ranks q
  high zero q e = subst (λ k. rank_at ranks k ≤ rank_at ranks q) (same_of q at e) (omega arith)
  high (suc n) q e = by (q == at) refl e (high n)
    where
      Higher : Type 0
      Higher = (r : ℕ) → leads parts at n r ≡ true → rank_at ranks at ≤ rank_at ranks r

      way : Higher → Passes (leads parts at n) (parts_at parts q) → rank_at ranks at ≤ rank_at ranks q
      way rest p = let one = rest p.0 p.2 in let two = lower q p.0 p.1 in omega (arith, one, two)

      by : (b : Bool) → (q == at) ≡ b → (if b then true else list_any (leads parts at n) (parts_at parts q)) ≡ true → Higher → rank_at ranks at ≤ rank_at ranks q
      by true s h rest = subst (λ k. rank_at ranks k ≤ rank_at ranks q) (same_of q at s) (omega arith)
      by false s h rest = way rest (any_from (leads parts at n) (parts_at parts q) h)

  less_or_same : (a b : ℕ) → a ≤ b → nat_le a b ≡ true
  less_or_same a b h = grind (arith, nat_tests)

  pub no_circle : (n : ℕ) → may_lead ranks at (parts_at parts at) ≡ false → list_any (leads parts at n) (parts_at parts at) ≡ false
  no_circle n low = by (list_any (leads parts at n) (parts_at parts at)) refl
    where
      on : Passes (leads parts at n) (parts_at parts at) → may_lead ranks at (parts_at parts at) ≡ true
      on p = any_to (λ q. nat_le (rank_at ranks at) (rank_at ranks q)) (parts_at parts at) p.0 p.1 (less_or_same (rank_at ranks at) (rank_at ranks p.0) (high n p.0 p.2))

      by : (b : Bool) → list_any (leads parts at n) (parts_at parts at) ≡ b → list_any (leads parts at n) (parts_at parts at) ≡ false
      by true e = true_or_false (may_lead ranks at (parts_at parts at)) (on (any_from (leads parts at n) (parts_at parts at) e)) low
      by false e = e
