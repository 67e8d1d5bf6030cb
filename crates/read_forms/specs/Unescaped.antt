-- Undoing escapes from left to right.
use Rattle.std.specs.Prelude.{◌≡◌, ◌<◌, ℕ, List, ◌∷◌, length}
use Rattle.ir_core.specs.Escapes.{unescaped}

-- the first byte that these bytes stand for, and the bytes behind it
abbrev pub Begins : List ℕ → ℕ → List ℕ → Type 0
Begins text c rest = (unescaped text ≡ c ∷ unescaped rest) × (length rest < length text)
