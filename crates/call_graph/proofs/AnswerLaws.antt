-- The least refusal of a kind: of those in a list, of either of two kinds, and of a kind that is the same.
use Rattle.std.proofs.Common.{◌≡◌, ℕ, zero, suc, List, [], ◌∷◌, Option, Some, None, Bool, true, false, ◌⊎◌, inl, inr, refl, sym, ap, ◌∙◌, slice_get, nat_lt, ◌==◌, ◌&&◌, if◌then◌else◌, arith}
use Rattle.std.proofs.lemmas.Bool.Decides.{nat_tests}
use Rattle.ir_core.specs.declared.refusal.Refusal.{Refusal}
use Rattle.ir_core.specs.Notes.{construct_number}
use Rattle.ir_core.specs.NameRefusals.{is_before, lesser, least}
use Rattle.name_tables.specs.Least.{or_first}
use Rattle.shapes.specs.Refusals.{IsLeast, IsAnswer}

-- the order of two lines and two numbers
abbrev before : ℕ → ℕ → ℕ → ℕ → Bool
before a b m n = if nat_lt a b then true else ((a == b) && nat_lt m n)

not_itself : (a m : ℕ) → before a a m m ≡ false
not_itself a m = grind (arith, nat_tests)

both_none : (a b c m n k : ℕ) → before b a n m ≡ false → before c b k n ≡ false → before c a k m ≡ false
both_none a b c m n k p q = grind (arith, nat_tests)

first_none : (a b c m n k : ℕ) → before b a n m ≡ true → before c a k m ≡ false → before c b k n ≡ false
first_none a b c m n k p q = grind (arith, nat_tests)

-- ---- of either kind

module _ (P Q : Refusal → Type 0) where
  abbrev Either : Refusal → Type 0
  Either r = P r ⊎ Q r

  by_order : (r s : Refusal) (b : Bool) → is_before s r ≡ b → IsLeast P r → IsLeast Q s → IsAnswer Either (if b then Some s else Some r)
  by_order r s true sooner p q = (
    inr q.0,
    λ t h. elim h [
      | inl in_p ↦ first_none r.line s.line t.line (construct_number r.construct) (construct_number s.construct) (construct_number t.construct) sooner (p.1 t in_p)
      | inr in_q ↦ q.1 t in_q
    ],
  )
  by_order r s false later p q = (
    inl p.0,
    λ t h. elim h [
      | inl in_p ↦ p.1 t in_p
      | inr in_q ↦ both_none r.line s.line t.line (construct_number r.construct) (construct_number s.construct) (construct_number t.construct) later (q.1 t in_q)
    ],
  )

  pub answer_either : (a b : Option Refusal) → IsAnswer P a → IsAnswer Q b → IsAnswer (λ r. P r ⊎ Q r) (or_first a b)
  answer_either None None p q = λ r h. elim h [ inl in_p ↦ p r in_p | inr in_q ↦ q r in_q ]
  answer_either None (Some s) p q = (inr q.0, λ t h. elim h [ inl in_p ↦ absurd (p t in_p) | inr in_q ↦ q.1 t in_q ])
  answer_either (Some r) None p q = (inl p.0, λ t h. elim h [ inl in_p ↦ p.1 t in_p | inr in_q ↦ absurd (q t in_q) ])
  answer_either (Some r) (Some s) p q = by_order r s (is_before s r) refl p q

  -- ---- of a kind that is the same

  pub answer_same : ((r : Refusal) → P r → Q r) → ((r : Refusal) → Q r → P r) → (a : Option Refusal) → IsAnswer P a → IsAnswer Q a
  answer_same to from None p = λ r h. p r (from r h)
  answer_same to from (Some r) p = (to r p.0, λ t h. p.1 t (from t h))

-- ---- of those in a list

abbrev pub StandsIn : List Refusal → Refusal → Type 0
StandsIn rs r = (place : ℕ) × (slice_get rs place ≡ Some r)

answer_one : (r : Refusal) → IsAnswer (λ s. s ≡ r) (Some r)
answer_one r = (refl, λ t same. ap (λ s. is_before s r) same ∙ not_itself r.line (construct_number r.construct))

or_rest : (r : Refusal) (rs : List Refusal) (s : Refusal) → (s ≡ r) ⊎ StandsIn rs s → StandsIn (r ∷ rs) s
or_rest r rs s (inl e) = (zero, ap Some (sym e))
or_rest r rs s (inr h) = (suc h.0, h.1)

first_or : (r : Refusal) (rs : List Refusal) (s : Refusal) → StandsIn (r ∷ rs) s → (s ≡ r) ⊎ StandsIn rs s
first_or r rs s h = at h.0 h.1 where
  at : (k : ℕ) → slice_get (r ∷ rs) k ≡ Some s → (s ≡ r) ⊎ StandsIn rs s
  at zero e = inl cc
  at (suc k) e = inr (k, e)

pub answer_of_list : (rs : List Refusal) → IsAnswer (StandsIn rs) (least rs)
answer_of_list [] = λ r h. let e = h.1 in let f : ⊥ = cc in f
answer_of_list (r ∷ rs) =
    answer_same (λ s. (s ≡ r) ⊎ StandsIn rs s) (StandsIn (r ∷ rs)) (or_rest r rs) (first_or r rs) (lesser r (least rs))
    (answer_either (λ s. s ≡ r) (StandsIn rs) (Some r) (least rs) (answer_one r) (answer_of_list rs))
