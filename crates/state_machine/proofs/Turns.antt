-- One more item of a list whose items are numbered.
use Rattle.std.proofs.Common.{◌≡◌, ℕ, suc, ◌+◌, ◌<◌, List, [], ◌∷◌, ◌++◌, length, take, get_or, refl, sym, ap, ◌∙◌, append_assoc, add-one, map, subst, arith}
use Rattle.std.proofs.Math.Seq.{take-suc}
use Rattle.std.proofs.lemmas.List.{append-nil, length-take-le}
use Rattle.state_machine.specs.Numbered.{flat_from}

module _ {A B : Type 0} (g : ℕ → A → List B) where
  no_more : (n : ℕ) → n ≡ n + 0
  no_more n = omega arith

  one_on : (n k : ℕ) → suc n + k ≡ n + suc k
  one_on n k = omega arith

  few : (xs : List A) (at : ℕ) → at < length xs → 0 + length (take at xs) ≡ at
  few xs at low = omega (arith, length-take-le at xs (omega arith))

  pushed : (n : ℕ) (xs : List A) (x : A) → flat_from g n (xs ++ x ∷ []) ≡ flat_from g n xs ++ g (n + length xs) x
  pushed n [] x = append-nil (g n x) ∙ ap (λ k. g k x) (no_more n)
  pushed n (y ∷ ys) x =
      ap (λ bs. g n y ++ bs) (pushed (suc n) ys x)
      ∙ ap (λ k. g n y ++ (flat_from g (suc n) ys ++ g k x)) (one_on n (length ys))
      ∙ sym (append_assoc (g n y) (flat_from g (suc n) ys) (g (n + suc (length ys)) x))

  pub one_more : (xs : List A) (at : ℕ) (d : A) → at < length xs → flat_from g 0 (take (at + 1) xs) ≡ flat_from g 0 (take at xs) ++ g at (get_or xs at d)
  one_more xs at d low =
      ap (λ n. flat_from g 0 (take n xs)) (add-one at)
      ∙ ap (flat_from g 0) (take-suc xs at d low)
      ∙ pushed 0 (take at xs) (get_or xs at d)
      ∙ ap (λ k. flat_from g 0 (take at xs) ++ g k (get_or xs at d)) (few xs at low)

  -- the items that a loop reads are those of a list
  pub next_turn : (xs ws : List A) (n : ℕ) (w : A) → xs ≡ ws → n < length xs → w ≡ get_or xs n w → flat_from g 0 (take n ws) ++ g n w ≡ flat_from g 0 (take (n + 1) ws)
  next_turn xs ws n w same low is =
      ap (λ (x : A). flat_from g 0 (take n ws) ++ g n x) (is ∙ ap (λ (ys : List A). get_or ys n w) same)
      ∙ sym (one_more ws n w (subst (λ (ys : List A). n < length ys) same low))

-- what the items of a list give by way of others
pub through : {A B C : Type 0} (g : ℕ → B → List C) (h : A → B) (n : ℕ) (xs : List A) → flat_from g n (map h xs) ≡ flat_from (λ k x. g k (h x)) n xs
through g h n [] = refl
through g h n (x ∷ xs) = ap (λ bs. g n (h x) ++ bs) (through g h (suc n) xs)
