-- What the items of a list give, each by its place.
use Rattle.std.specs.Prelude.{ℕ, ◌+◌, List, [], ◌∷◌, ◌++◌}

-- one item after another, where the first stands at a place
abbrev pub by_place : {A B : Type 0} → (ℕ → A → List B) → ℕ → List A → List B
by_place gives at [] = []
by_place gives at (x ∷ xs) = gives at x ++ by_place gives (at + 1) xs
