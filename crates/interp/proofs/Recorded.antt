-- The last entry of a history is taken back.
use Rattle.std.proofs.Common.{◌≡◌, List, [], ◌∷◌, ◌++◌, Option, Some, None, sym, ◌∙◌}
use Rattle.std.specs.Option.{MatchOption}

module _ {A : Type 0} where
  never_empty : (xs : List A) (x : A) → [] ≡ xs ++ x ∷ [] → ⊥
  never_empty [] x h = let f : ⊥ = cc in f
  never_empty (y ∷ ys) x h = let f : ⊥ = cc in f

  same_front : (xs ys : List A) (x y : A) → xs ++ x ∷ [] ≡ ys ++ y ∷ [] → xs ≡ ys
  same_front [] [] x y h = λ i. []
  same_front [] (b ∷ ys) x y h = let rest : [] ≡ ys ++ y ∷ [] = cc in absurd (never_empty ys y rest)
  same_front (a ∷ xs) [] x y h = let rest : xs ++ x ∷ [] ≡ [] = cc in absurd (never_empty xs x (sym rest))
  same_front (a ∷ xs) (b ∷ ys) x y h =
      let first : a ≡ b = cc in
      let rest : xs ++ x ∷ [] ≡ ys ++ y ∷ [] = cc in
      let fronts = same_front xs ys x y rest in
      λ i. first i ∷ fronts i

  pub popped : (result : Option A) (pushed left first : List A) (last : A) → MatchOption result ((pushed ≡ []) × (left ≡ [])) (λ x. pushed ≡ left ++ x ∷ []) → pushed ≡ first ++ last ∷ [] → left ≡ first
  popped None pushed left first last h is = absurd (never_empty first last (sym h.0 ∙ is))
  popped (Some x) pushed left first last h is = same_front left first x last (sym h ∙ is)
