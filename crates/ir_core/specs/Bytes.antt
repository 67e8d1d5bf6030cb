-- Classes of bytes.
use Rattle.std.specs.Prelude.{ℕ, ◌+◌, List, [], ◌∷◌, Bool, true, false, ◌==◌, nat_lt, if◌then◌else◌}

-- what a byte can stand for in a text
pub data Class : Type 0 where
  Blank : Class
  Semicolon : Class
  Bracket : Class
  Digit : Class
  Dash : Class
  Letter : Class
  Percent : Class
  AtSign : Class
  Colon : Class
  Quote : Class
  Hash : Class
  Bang : Class
  Other : Class

abbrev pub between : ℕ → ℕ → ℕ → Bool
between low high c = if nat_lt c low then false else nat_lt c (high + 1)

abbrev pub is_one_of : List ℕ → ℕ → Bool
is_one_of [] c = false
is_one_of (x ∷ xs) c = if c == x then true else is_one_of xs c

-- space, tab, CR and LF
abbrev pub blanks : List ℕ
blanks = 32 ∷ 9 ∷ 13 ∷ 10 ∷ []

-- ( ) [ ] { } < > , = *
abbrev pub marks : List ℕ
marks = 40 ∷ 41 ∷ 91 ∷ 93 ∷ 123 ∷ 125 ∷ 60 ∷ 62 ∷ 44 ∷ 61 ∷ 42 ∷ []

-- $ . _
abbrev pub letter_signs : List ℕ
letter_signs = 36 ∷ 46 ∷ 95 ∷ []

abbrev pub class_of : ℕ → Class
class_of c = if is_one_of blanks c then Blank else if is_one_of marks c then Bracket else if between 48 57 c then Digit else if between 97 122 c then Letter else if between 65 90 c then Letter else if is_one_of letter_signs c then Letter else if c == 45 then Dash else if c == 37 then Percent else if c == 64 then AtSign else if c == 58 then Colon else if c == 59 then Semicolon else if c == 34 then Quote else if c == 35 then Hash else if c == 33 then Bang else Other

abbrev pub is_word_class : Class → Bool
is_word_class Letter = true
is_word_class Digit = true
is_word_class Dash = true
is_word_class _ = false

abbrev pub is_digit_class : Class → Bool
is_digit_class Digit = true
is_digit_class _ = false

-- letters, digits, $ . _ -
abbrev pub word_byte : ℕ → Bool
word_byte c = is_word_class (class_of c)

abbrev pub digit_byte : ℕ → Bool
digit_byte c = is_digit_class (class_of c)

-- digits, a to f, A to F
abbrev pub hex_byte : ℕ → Bool
hex_byte c = if between 48 57 c then true else if between 97 102 c then true else between 65 70 c

abbrev pub no_line_end : ℕ → Bool
no_line_end c = if c == 10 then false else true

abbrev pub no_quote : ℕ → Bool
no_quote c = if c == 34 then false else true

abbrev pub every : (ℕ → Bool) → List ℕ → Bool
every p [] = true
every p (c ∷ cs) = if p c then every p cs else false
