-- The first line at which something is broken.
use Rattle.std.specs.Prelude.{◌≡◌, ◌⊎◌, ◌≤◌, ◌<◌, ℕ, Option, None, Some}

-- the least line of those at which something is broken, or none where it is broken nowhere
abbrev pub IsLeastLine : (ℕ → Type 0) → Option ℕ → Type 0
IsLeastLine Broken None = (line : ℕ) → Broken line → ⊥
IsLeastLine Broken (Some line) = Broken line × ((other : ℕ) → Broken other → line ≤ other)

-- the lesser of two lines, where there are two
abbrev pub IsLesser : Option ℕ → Option ℕ → Option ℕ → Type 0
IsLesser None b r = r ≡ b
IsLesser (Some x) None r = r ≡ Some x
IsLesser (Some x) (Some y) r = ((x ≤ y) × (r ≡ Some x)) ⊎ ((y ≤ x) × (r ≡ Some y))

-- something is broken at a line for one of the first places
abbrev pub Below : (ℕ → ℕ → Type 0) → ℕ → ℕ → Type 0
Below Broken places line = (at : ℕ) × (at < places) × Broken at line
