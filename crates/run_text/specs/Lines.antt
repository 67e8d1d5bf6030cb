-- Lines of a text, and what stands in one.
use Rattle.std.specs.Prelude.{ℕ, ◌+◌, ◌*◌, ◌-◌, List, [], ◌∷◌, Option, Some, None, Bool, false, not, ◌&&◌, ◌==◌, if◌then◌else◌}
use Rattle.std.specs.List.{list_all}
use Rattle.ir_core.specs.Bytes.{between}
use Rattle.ir_core.specs.Numbers.{value_of}

abbrev pub with_first : ℕ → List (List ℕ) → List (List ℕ)
with_first c [] = (c ∷ []) ∷ []
with_first c (line ∷ lines) = (c ∷ line) ∷ lines

-- lines end with LF; the last may lack it
abbrev pub lines : List ℕ → List (List ℕ)
lines [] = []
lines (c ∷ cs) = if c == 10 then [] ∷ lines cs else with_first c (lines cs)

-- a line with its number, counted from 1
pub record Line : Type 0 where
  pub number : ℕ
  pub bytes : List ℕ

abbrev pub numbered : ℕ → List (List ℕ) → List Line
numbered n [] = []
numbered n (line ∷ lines) = record { number = n; bytes = line } ∷ numbered (n + 1) lines

-- what comes behind these first bytes
abbrev pub behind : List ℕ → List ℕ → Option (List ℕ)
behind [] line = Some line
behind (c ∷ cs) [] = None
behind (c ∷ cs) (d ∷ ds) = if c == d then behind cs ds else None

abbrev pub is_digit : ℕ → Bool
is_digit = between 48 57

-- decimal digits without a needless zero in front
abbrev pub is_numeral : List ℕ → Bool
is_numeral [] = false
is_numeral (c ∷ []) = is_digit c
is_numeral (c ∷ d ∷ ds) = list_all is_digit (c ∷ d ∷ ds) && not (c == 48)

-- the number that such digits spell, of any length
abbrev pub numeral : List ℕ → Option ℕ
numeral digits = if is_numeral digits then Some (value_of digits) else None

-- ---- hexadecimal digits, in either case

abbrev pub hex_value : ℕ → Option ℕ
hex_value c = if is_digit c then Some (c - 48) else if between 97 102 c then Some (c - 87) else if between 65 70 c then Some (c - 55) else None

abbrev pub with_byte : Option ℕ → Option ℕ → Option (List ℕ) → Option (List ℕ)
with_byte (Some high) (Some low) (Some bytes) = Some ((16 * high + low) ∷ bytes)
with_byte _ _ _ = None

-- the bytes that pairs of digits spell
abbrev pub hex_bytes : List ℕ → Option (List ℕ)
hex_bytes [] = Some []
hex_bytes (c ∷ []) = None
hex_bytes (c ∷ d ∷ rest) = with_byte (hex_value c) (hex_value d) (hex_bytes rest)
