-- Marks in rows.
use Rattle.std.specs.Prelude.{◌≡◌, ℕ, List, Bool, true, Some, slice_get}

-- two rows have the mark true at the same place
abbrev pub ShareMark : List Bool → List Bool → Type 0
ShareMark row other = (at : ℕ) × (slice_get row at ≡ Some true) × (slice_get other at ≡ Some true)

-- the row of one place has the mark true at the other
abbrev pub IsMarkedIn : List (List Bool) → ℕ → ℕ → Type 0
IsMarkedIn rows from to = (row : List Bool) × (slice_get rows from ≡ Some row) × (slice_get row to ≡ Some true)
