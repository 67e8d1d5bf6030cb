-- The first item of a name is the one at the name's first place.
use Rattle.std.proofs.Common.{◌≡◌, ℕ, ◌+◌, List, [], ◌∷◌, map, Option, Some, None, option_map, true, false, refl, sym, ap, ◌∙◌, if◌then◌else◌, cond, add-one}
use Rattle.std.specs.Prelude.{option_and_then, slice_get}
use Rattle.std.specs.List.{find}
use Rattle.std.specs.Str.{bytes_eq}
use Rattle.ir_core.specs.Places.{place_from, place_in}

place_from-suc : (n : ℕ) (ys : List (List ℕ)) (x : List ℕ) → place_from (n + 1) ys x ≡ option_map (λ k. k + 1) (place_from n ys x)
place_from-suc n [] x = refl
place_from-suc n (y ∷ ys) x =
    elim (bytes_eq y x) as (λ b. (if b then Some (n + 1) else place_from (n + 1 + 1) ys x) ≡ option_map (λ k. k + 1) (if b then Some n else place_from (n + 1) ys x)) [
      | true ↦ refl
      | false ↦ place_from-suc (n + 1) ys x
    ]

behind : {A : Type 0} (a : A) (as_ : List A) (o : Option ℕ) → option_and_then (slice_get as_) o ≡ option_and_then (slice_get (a ∷ as_)) (option_map (λ k. k + 1) o)
behind a as_ None = refl
behind a as_ (Some k) = ap (slice_get (a ∷ as_)) (sym (add-one k))

module _ {A : Type 0} (name : A → List ℕ) where
  pub first_at : (items : List A) (x : List ℕ) → find (λ a. bytes_eq (name a) x) items ≡ option_and_then (slice_get items) (place_in (map name items) x)
  first_at [] x = refl
  first_at (a ∷ items) x =
      elim (bytes_eq (name a) x) as (λ b. cond b (Some a) (find (λ c. bytes_eq (name c) x) items) ≡ option_and_then (slice_get (a ∷ items)) (if b then Some 0 else place_from 1 (map name items) x)) [
        | true ↦ refl
        | false ↦ first_at items x ∙ behind a items (place_in (map name items) x) ∙ ap (option_and_then (slice_get (a ∷ items))) (sym (place_from-suc 0 (map name items) x))
      ]

  pub found_at : (items : List A) (x : List ℕ) (o : Option ℕ) → o ≡ place_in (map name items) x → option_and_then (slice_get items) o ≡ find (λ a. bytes_eq (name a) x) items
  found_at items x o is = ap (option_and_then (slice_get items)) is ∙ sym (first_at items x)
