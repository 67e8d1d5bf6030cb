-- Where a name first stands among words.
use Rattle.std.specs.Prelude.{ℕ, slice_index, ◌<◌, List, Option, None, Some, position, string_bytes}
use Rattle.std.specs.Str.{bytes_eq}
use Rattle.std.specs.declared.string.String.{String}
use Rattle.std.specs.declared.alloc.Global.{Global}

-- the place of the first word that equals the name
abbrev pub place : List (String Global) → List ℕ → Option ℕ
place words name = position (λ word. bytes_eq (string_bytes word) name) words

-- the place is one of the first eight
abbrev pub IsKept : Option ℕ → Type 0
IsKept None = ⊥
IsKept (Some index) = index < 8

-- the count that is kept for a place, and 0 for none
abbrev pub count_at : List ℕ → Option ℕ → ℕ
count_at counts None = 0
count_at counts (Some index) = slice_index counts index

-- files by name serve the names among their first eight words
abbrev pub IsServed : List (String Global) → List ℕ → Type 0
IsServed words name = IsKept (place words name)
