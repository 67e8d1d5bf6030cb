-- A list after a write at one place.
use Rattle.std.proofs.Common.{◌≡◌, ◌≢◌, ℕ, zero, suc, ◌+◌, ◌≤◌, List, [], ◌∷◌, Bool, true, Some, refl, ap, sym, ◌∙◌, inl, inr, arith}
use Rattle.std.proofs.lemmas.Bool.{cases_eq, and_parts, and_from}
use Rattle.std.specs.List.{list_all}
use Rattle.std.specs.Prelude.{slice_get, slice_set}
use Rattle.mem_model.proofs.Runs.{none_is_not_some, some_injective}

module _ {A : Type 0} where
  pub set_here : (xs : List A) (i : ℕ) (x y : A) → slice_get xs i ≡ Some y → slice_get (slice_set xs i x) i ≡ Some x
  set_here [] i x y h = none_is_not_some h
  set_here (z ∷ zs) zero x y h = refl
  set_here (z ∷ zs) (suc i) x y h = set_here zs i x y h

  pub set_else : (xs : List A) (i j : ℕ) (x : A) → j ≢ i → slice_get (slice_set xs i x) j ≡ slice_get xs j
  set_else [] i j x h = refl
  set_else (z ∷ zs) zero zero x h = absurd (h refl)
  set_else (z ∷ zs) zero (suc j) x h = refl
  set_else (z ∷ zs) (suc i) zero x h = refl
  set_else (z ∷ zs) (suc i) (suc j) x h = set_else zs i j x (λ e. h (ap suc e))

  -- a test of every element that the written one passes
  pub all_after_set : (p : A → Bool) (xs : List A) (i : ℕ) (x : A) → p x ≡ true → list_all p xs ≡ true → list_all p (slice_set xs i x) ≡ true
  all_after_set p [] i x h all = refl
  all_after_set p (z ∷ zs) zero x h all = and_from (p x) (list_all p zs) h (and_parts (p z) (list_all p zs) all).1
  all_after_set p (z ∷ zs) (suc i) x h all = let q = and_parts (p z) (list_all p zs) all in and_from (p z) (list_all p (slice_set zs i x)) q.0 (all_after_set p zs i x h q.1)

  pub all_at : (p : A → Bool) (xs : List A) (i : ℕ) (x : A) → list_all p xs ≡ true → slice_get xs i ≡ Some x → p x ≡ true
  all_at p [] i x all h = none_is_not_some h
  all_at p (z ∷ zs) zero x all h = ap p (sym (some_injective h)) ∙ (and_parts (p z) (list_all p zs) all).0
  all_at p (z ∷ zs) (suc i) x all h = all_at p zs i x (and_parts (p z) (list_all p zs) all).1 h

  unfoldable pub total_of : (A → ℕ) → List A → ℕ
  total_of f [] = 0
  total_of f (x ∷ xs) = f x + total_of f xs

  -- the total after one element got smaller by at least one
  pub total_falls : (f : A → ℕ) (xs : List A) (i : ℕ) (x y : A) → slice_get xs i ≡ Some y → 1 + f x ≤ f y → 1 + total_of f (slice_set xs i x) ≤ total_of f xs
  unfolding total_of
  total_falls f [] i x y h le = none_is_not_some h
  total_falls f (z ∷ zs) zero x y h le = let e : f z ≡ f y = ap f (some_injective h) in omega arith
  total_falls f (z ∷ zs) (suc i) x y h le = let e = total_falls f zs i x y h le in omega arith

-- what holds of each place of two lists, after a write to both at one place, or to the first alone
module _ {A B : Type 0} (xs : List A) (ys : List B) (f : ℕ → A → B) (each : (i : ℕ) (a : A) → slice_get xs i ≡ Some a → slice_get ys i ≡ Some (f i a)) (d : ℕ) (x y : A) (there : slice_get xs d ≡ Some y) where
  pub both_set : (i : ℕ) (a : A) → slice_get (slice_set xs d x) i ≡ Some a → slice_get (slice_set ys d (f d x)) i ≡ Some (f i a)
  both_set i a h = elim (cases_eq i d) [
    | inl e ↦
        let here = set_here xs d x y there in
        let same : x ≡ a = some_injective (sym here ∙ sym (ap (slice_get (slice_set xs d x)) e) ∙ h) in
        ap (slice_get (slice_set ys d (f d x))) e ∙ set_here ys d (f d x) (f d y) (each d y there) ∙ ap (λ v. Some (f d v)) same ∙ ap (λ n. Some (f n a)) (sym e)
    | inr ne ↦ set_else ys d i (f d x) ne ∙ each i a (sym (set_else xs d i x ne) ∙ h)
  ]

  pub first_set : f d x ≡ f d y → (i : ℕ) (a : A) → slice_get (slice_set xs d x) i ≡ Some a → slice_get ys i ≡ Some (f i a)
  first_set g i a h = elim (cases_eq i d) [
    | inl e ↦
        let here = set_here xs d x y there in
        let same : x ≡ a = some_injective (sym here ∙ sym (ap (slice_get (slice_set xs d x)) e) ∙ h) in
        ap (slice_get ys) e ∙ each d y there ∙ ap Some (sym g) ∙ ap (λ v. Some (f d v)) same ∙ ap (λ n. Some (f n a)) (sym e)
    | inr ne ↦ each i a (sym (set_else xs d i x ne) ∙ h)
  ]
