-- What the items of a list give, each with its number.
use Rattle.std.specs.Prelude.{ℕ, suc, List, [], ◌∷◌, ◌++◌}

-- the items are numbered from n on
abbrev pub flat_from : {A B : Type 0} → (ℕ → A → List B) → ℕ → List A → List B
flat_from g n [] = []
flat_from g n (x ∷ xs) = g n x ++ flat_from g (suc n) xs
