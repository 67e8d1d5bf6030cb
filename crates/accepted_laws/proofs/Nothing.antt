-- Lists that have nothing in them, and tests that hold.
use Rattle.std.proofs.Common.{◌≡◌, ℕ, zero, suc, List, [], ◌∷◌, ◌++◌, map, Some, Bool, true, false, ◌||◌, ◌&&◌, refl, sym, ap, ◌∙◌, subst}
use Rattle.std.specs.Prelude.{slice_get}
use Rattle.std.specs.List.{flat_map, list_all, list_any}
use Rattle.std.proofs.lemmas.Bool.{and_parts}
use Rattle.std.proofs.lemmas.Option.{none-some, same_Some}
use Rattle.ir_core.specs.declared.refusal.Construct.{Construct}
use Rattle.ir_core.specs.Typing.{expects}
use Rattle.ir_core.specs.NameRefusals.{at}

-- what is true is not false
pub not_both : {A : Type 0} (b : Bool) → b ≡ true → b ≡ false → A
not_both b yes_ no_ = let f : ⊥ = cc in absurd f

pub something : {A B : Type 0} (x : A) (xs : List A) → x ∷ xs ≡ [] → B
something x xs e = let f : ⊥ = cc in absurd f

pub front_none : {A : Type 0} (xs ys : List A) → xs ++ ys ≡ [] → xs ≡ []
front_none [] ys e = refl
front_none (x ∷ xs) ys e = something x (xs ++ ys) e

pub back_none : {A : Type 0} (xs ys : List A) → xs ++ ys ≡ [] → ys ≡ []
back_none [] ys e = e
back_none (x ∷ xs) ys e = something x (xs ++ ys) e

pub map_none : {A B : Type 0} (f : A → B) (xs : List A) → map f xs ≡ [] → xs ≡ []
map_none f [] e = refl
map_none f (x ∷ xs) e = something (f x) (map f xs) e

-- each part of a flat_map that has nothing has nothing
pub each_none : {A B : Type 0} (f : A → List B) (xs : List A) (at : ℕ) (x : A) → flat_map f xs ≡ [] → slice_get xs at ≡ Some x → f x ≡ []
each_none f [] at x e is = absurd (none-some x is)
each_none f (y ∷ ys) zero x e is = subst (λ z. f z ≡ []) (same_Some y x is) (front_none (f y) (flat_map f ys) e)
each_none f (y ∷ ys) (suc at) x e is = each_none f ys at x (back_none (f y) (flat_map f ys) e) is

pub nothing_at : (line : ℕ) (cs : List Construct) → at line cs ≡ [] → cs ≡ []
nothing_at line cs e = map_none _ cs e

-- what is expected holds
pub holds : (b : Bool) → expects b ≡ [] → b ≡ true
holds true e = refl
holds false e = something _ _ e

-- ---- tests on the items of a list

pub any_at : {A : Type 0} (test : A → Bool) (xs : List A) (at : ℕ) (x : A) → slice_get xs at ≡ Some x → test x ≡ true → list_any test xs ≡ true
any_at test [] at x is e = absurd (none-some x is)
any_at test (y ∷ ys) zero x is e = ap (λ b. b || list_any test ys) (ap test (same_Some y x is) ∙ e)
any_at test (y ∷ ys) (suc at) x is e = by (test y) (any_at test ys at x is e)
  where
    by : (b : Bool) → list_any test ys ≡ true → (b || list_any test ys) ≡ true
    by true h = refl
    by false h = h

pub all_at : {A : Type 0} (test : A → Bool) (xs : List A) (at : ℕ) (x : A) → list_all test xs ≡ true → slice_get xs at ≡ Some x → test x ≡ true
all_at test [] at x e is = absurd (none-some x is)
all_at test (y ∷ ys) zero x e is = ap test (sym (same_Some y x is)) ∙ (and_parts (test y) (list_all test ys) e).0
all_at test (y ∷ ys) (suc at) x e is = all_at test ys at x (and_parts (test y) (list_all test ys) e).1 is

pub both_hold : (a b : Bool) → a ≡ true → b ≡ true → (a && b) ≡ true
both_hold a b e f = ap (λ c. c && b) e ∙ f
