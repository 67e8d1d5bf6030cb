-- Widths of integers.
use Rattle.std.specs.Prelude.{ℕ, ◌+◌, ◌*◌, ◌-◌, ◌≤◌, ◌^◌, Option, Some, None, Bool, nat_lt, if◌then◌else◌}
use Rattle.ir_core.specs.declared.types.Ty.{Ty}
use Rattle.ir_core.specs.declared.types.Ty.TheVariants.{Int}
use Rattle.ir_core.specs.Numbers.{fits, modulo}

-- a type has no width, or one from 1 to 64
abbrev pub HasWidth : Ty → Type 0
HasWidth (Int width) = (1 ≤ width) × (width ≤ 64)
HasWidth _ = Unit {0}

-- a number below 2^64
abbrev pub in_word : ℕ → Option ℕ
in_word n = if nat_lt n (2 ^ 64) then Some n else None

-- a number as it is kept at a type
abbrev pub kept_as : Ty → Bool → ℕ → ℕ
kept_as (Int width) negative n = if fits width negative n then modulo width negative n else modulo 64 negative n
kept_as _ negative n = modulo 64 negative n

-- a number with one digit more
abbrev pub with_digit : ℕ → ℕ → ℕ
with_digit n c = 10 * n + (c - 48)
