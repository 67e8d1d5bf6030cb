-- Numbers of a width, but for the truth values.
use Rattle.std.specs.Prelude.{ℕ, ◌^◌, List, decimal, nat_lt, if◌then◌else◌}
use Rattle.ir_core.specs.Text.{signed_text}

-- the text of a number of a width other than one
abbrev pub plain_or_signed : ℕ → ℕ → List ℕ
plain_or_signed width n = if nat_lt n (2 ^ width) then signed_text width n else decimal n
