-- Escapes in quoted names and strings: \HH is a byte, \\ a backslash, and any other \ stands for itself.
use Rattle.std.specs.Prelude.{ℕ, ◌+◌, ◌-◌, ◌*◌, List, [], ◌∷◌, length, take, drop, ◌==◌, ◌&&◌, if◌then◌else◌}
use Rattle.ir_core.specs.Bytes.{between, hex_byte}
use Rattle.ir_core.specs.Numbers.{begins_with}

abbrev pub hex_value : ℕ → ℕ
hex_value c = if between 48 57 c then c - 48 else if between 97 102 c then c - 87 else c - 55

abbrev pub unescaped : List ℕ → List ℕ
unescaped [] = []
unescaped (c ∷ []) = c ∷ []
unescaped (c ∷ d ∷ []) = if (c == 92) && (d == 92) then 92 ∷ [] else c ∷ d ∷ []
unescaped (c ∷ d ∷ e ∷ rest) =
    if c == 92 then (if d == 92 then 92 ∷ unescaped (e ∷ rest) else if hex_byte d && hex_byte e then (16 * hex_value d + hex_value e) ∷ unescaped rest else 92 ∷ unescaped (d ∷ e ∷ rest))
    else c ∷ unescaped (d ∷ e ∷ rest)

-- what stands between the quotes
abbrev pub quoted_bytes : List ℕ → List ℕ
quoted_bytes text = unescaped (take (length text - 2) (drop 1 text))

-- the name that a word, digits or a quoted string spells
abbrev pub stem_name : List ℕ → List ℕ
stem_name stem = if begins_with 34 stem then quoted_bytes stem else stem
