-- Numbers as they are written, and as they are kept.
use Rattle.std.specs.Prelude.{ℕ, ◌+◌, ◌-◌, ◌*◌, ◌%◌, ◌^◌, List, [], ◌∷◌, drop, Bool, false, ◌==◌, nat_lt, nat_le, if◌then◌else◌}
use Rattle.ir_core.specs.declared.types.Ty.{Ty}
use Rattle.ir_core.specs.declared.types.Ty.TheVariants.{Int}

abbrev pub value_from : ℕ → List ℕ → ℕ
value_from n [] = n
value_from n (c ∷ cs) = value_from (10 * n + (c - 48)) cs

-- the number that digits spell
abbrev pub value_of : List ℕ → ℕ
value_of = value_from 0

abbrev pub begins_with : ℕ → List ℕ → Bool
begins_with c [] = false
begins_with c (x ∷ xs) = x == c

-- a number token is a - or none, and its digits
abbrev pub is_negative : List ℕ → Bool
is_negative bytes = begins_with 45 bytes

abbrev pub magnitude : List ℕ → ℕ
magnitude bytes = if is_negative bytes then value_of (drop 1 bytes) else value_of bytes

-- from -2^(width-1) to 2^width-1
abbrev pub fits : ℕ → Bool → ℕ → Bool
fits width negative n = if negative then nat_le n (2 ^ (width - 1)) else nat_lt n (2 ^ width)

abbrev pub modulo : ℕ → Bool → ℕ → ℕ
modulo width negative n = if negative then (2 ^ width - n) % 2 ^ width else n % 2 ^ width

-- a number where an operand stands is from -2^63 to 2^64-1
abbrev pub is_number_in_range : List ℕ → Bool
is_number_in_range bytes = fits 64 (is_negative bytes) (magnitude bytes)

-- a number that is of its type is kept modulo two to its width, every other modulo 2^64
abbrev pub kept_at : Ty → List ℕ → ℕ
kept_at (Int width) bytes = if fits width (is_negative bytes) (magnitude bytes) then modulo width (is_negative bytes) (magnitude bytes) else modulo 64 (is_negative bytes) (magnitude bytes)
kept_at _ bytes = modulo 64 (is_negative bytes) (magnitude bytes)
