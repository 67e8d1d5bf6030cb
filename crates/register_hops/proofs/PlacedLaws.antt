-- What the items of a list give by their places: one item further, and which item gives something.
use Rattle.std.proofs.Common.{◌≡◌, ℕ, zero, suc, ◌+◌, ◌<◌, List, [], ◌∷◌, ◌++◌, length, take, get_or, Some, inl, inr, refl, sym, ap, subst, ◌∙◌, slice_get, add-one, arith}
use Rattle.std.proofs.lemmas.List.{append-nil, append_assoc}
use Rattle.std.proofs.lemmas.Option.{none-some, same_Some, slice_get-get_or}
use Rattle.call_graph.proofs.ListLaws.{Among, none_among, in_front, behind, in_either}
use Rattle.register_hops.specs.Placed.{by_place}

module _ {A B : Type 0} (gives : ℕ → A → List B) where
  next : (xs : List A) (k n : ℕ) (x : A) → slice_get xs n ≡ Some x → by_place gives k (take (suc n) xs) ≡ by_place gives k (take n xs) ++ gives (k + n) x
  next [] k n x e = absurd (none-some x e)
  next (y ∷ xs) k zero x e =
      let same : k ≡ k + 0 = omega arith in
      append-nil (gives k y) ∙ ap (gives k) (same_Some y x e) ∙ ap (λ j. gives j x) same
  next (y ∷ xs) k (suc n) x e =
      let same : k + 1 + n ≡ k + suc n = omega arith in
      ap (λ ys. gives k y ++ ys) (next xs (k + 1) n x e ∙ ap (λ j. by_place gives (k + 1) (take n xs) ++ gives j x) same)
      ∙ sym (append_assoc (gives k y) (by_place gives (k + 1) (take n xs)) (gives (k + suc n) x))

  -- one item further, behind what there was before
  pub placed_more : (xs : List A) (n : ℕ) (x : A) (before old new : List B) → n < length xs → x ≡ get_or xs n x → old ≡ before ++ by_place gives 0 (take n xs) → new ≡ old ++ gives n x
      → new ≡ before ++ by_place gives 0 (take (n + 1) xs)
  placed_more xs n x before old new low is was e =
      let there : slice_get xs n ≡ Some x = slice_get-get_or xs n x low ∙ ap Some (sym is) in
      let same : n ≡ 0 + n = omega arith in
      e
      ∙ ap (λ ys. ys ++ gives n x) was
      ∙ append_assoc before (by_place gives 0 (take n xs)) (gives n x)
      ∙ ap (λ j. before ++ (by_place gives 0 (take n xs) ++ gives j x)) same
      ∙ ap (λ ys. before ++ ys) (sym (next xs 0 n x there))
      ∙ ap (λ k. before ++ by_place gives 0 (take k xs)) (sym (add-one n))

  -- the item at a place gives it, where the first stands at another one
  pub record GivenAt (xs : List A) (k : ℕ) (y : B) : Type 0 where
    pub place : ℕ
    pub item : A
    pub there : slice_get xs place ≡ Some item
    pub given : Among (gives (k + place) item) y

  later : (x : A) (xs : List A) (k : ℕ) (y : B) → GivenAt xs (k + 1) y → GivenAt (x ∷ xs) k y
  later x xs k y g =
      let same : k + 1 + g.place ≡ k + suc g.place = omega arith in
      let P : ℕ → Type 0 = λ j. Among (gives j g.item) y in
      record { place = suc g.place; item = g.item; there = g.there; given = subst P same g.given }

  pub given_at : (xs : List A) (k : ℕ) (y : B) → Among (by_place gives k xs) y → GivenAt xs k y
  given_at [] k y a = absurd (none_among y a)
  given_at (x ∷ xs) k y a = elim (in_either (gives k x) (by_place gives (k + 1) xs) y a) [
    | inl b ↦
        let same : k ≡ k + 0 = omega arith in
        let P : ℕ → Type 0 = λ j. Among (gives j x) y in
        record { place = 0; item = x; there = refl; given = subst P same b }
    | inr b ↦ later x xs k y (given_at xs (k + 1) y b)
  ]

  pub is_given_at : (xs : List A) (k place : ℕ) (x : A) (y : B) → slice_get xs place ≡ Some x → Among (gives (k + place) x) y → Among (by_place gives k xs) y
  is_given_at [] k place x y there given = absurd (none-some x there)
  is_given_at (z ∷ xs) k zero x y there given =
      let same : k + 0 ≡ k = omega arith in
      let P : ℕ → Type 0 = λ j. Among (gives j x) y in
      let Q : A → Type 0 = λ w. Among (gives k w) y in
      in_front (gives k z) (by_place gives (k + 1) xs) y (subst Q (sym (same_Some z x there)) (subst P same given))
  is_given_at (z ∷ xs) k (suc place) x y there given =
      let same : k + suc place ≡ k + 1 + place = omega arith in
      let P : ℕ → Type 0 = λ j. Among (gives j x) y in
      behind (gives k z) (by_place gives (k + 1) xs) y (is_given_at xs (k + 1) place x y there (subst P same given))
