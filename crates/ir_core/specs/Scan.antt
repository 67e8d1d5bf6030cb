-- The piece at the front of a text, as a function of its bytes from left to right.
use Rattle.std.specs.Prelude.{◌≡◌, ℕ, ◌+◌, List, [], ◌∷◌, ◌++◌, length, take, drop, codes, Option, Some, None, Bool, true, false, ◌==◌, ◌||◌, nat_lt, if◌then◌else◌}
use Rattle.std.specs.Str.{bytes_eq}
use Rattle.ir_core.specs.Bytes.{Class, Blank, Semicolon, Bracket, Digit, Dash, Letter, Percent, AtSign, Colon, Quote, Hash, Bang, Other, class_of, is_one_of, word_byte, digit_byte, hex_byte, no_line_end, no_quote}
use Rattle.ir_core.specs.Tokens.{TokenKind, Word, Local, Global, Label, Number, Float, Text, CText, Group, Meta, Mark, Passive, Bad, Token, Piece, Spot, text_start, is_outside, passive_fronts, Pieces, tokens_from}

-- how many bytes with p come first
abbrev pub run : (ℕ → Bool) → List ℕ → ℕ
run p [] = 0
run p (c ∷ cs) = if p c then run p cs + 1 else 0

-- the class of the first byte; behind the end it is one that begins nothing
abbrev pub class_at : List ℕ → Class
class_at [] = Other
class_at (c ∷ cs) = class_of c

abbrev pub piece : Option TokenKind → ℕ → Piece
piece kind size = record { kind = kind; size = size }

abbrev pub bad_piece : Piece
bad_piece = piece (Some Bad) 1

-- ---- numbers and float literals

-- how far a literal has come: behind its -, a 0 alone, digits, behind its point, behind its e, behind the sign there, behind digits there, behind 0x, behind the letter there, hexadecimal digits; or it is none
pub data Literal : Type 0 where
  Minus : Literal
  Zero : Literal
  Whole : Literal
  Point : Literal
  Exponent : Literal
  Sign : Literal
  Power : Literal
  Prefix : Literal
  Format : Literal
  Hexadecimal : Literal
  Neither : Literal

-- behind the first byte
abbrev pub literal_start : Class → ℕ → Literal
literal_start Dash c = Minus
literal_start Digit c = if c == 48 then Zero else Whole
literal_start _ c = Neither

-- behind one byte more
abbrev pub literal_step : Literal → ℕ → Literal
literal_step Minus c = if digit_byte c then Whole else Neither
literal_step Zero c = if digit_byte c then Whole else if c == 46 then Point else if c == 120 then Prefix else Neither
literal_step Whole c = if digit_byte c then Whole else if c == 46 then Point else Neither
literal_step Point c = if digit_byte c then Point else if is_one_of (codes "eE") c then Exponent else Neither
literal_step Exponent c = if digit_byte c then Power else if is_one_of (codes "+-") c then Sign else Neither
literal_step Sign c = if digit_byte c then Power else Neither
literal_step Power c = if digit_byte c then Power else Neither
literal_step Prefix c = if hex_byte c then Hexadecimal else if is_one_of (codes "KLMHR") c then Format else Neither
literal_step Format c = if hex_byte c then Hexadecimal else Neither
literal_step Hexadecimal c = if hex_byte c then Hexadecimal else Neither
literal_step Neither c = Neither

abbrev pub is_whole : Literal → Bool
is_whole Zero = true
is_whole Whole = true
is_whole _ = false

abbrev pub is_float : Literal → Bool
is_float Point = true
is_float Power = true
is_float Hexadecimal = true
is_float _ = false

abbrev pub is_no_literal : Literal → Bool
is_no_literal q = if is_whole q then false else if is_float q then false else true

-- the size of the longest front that comes to what passes p; 0 if there is none
abbrev pub longest : (Literal → Bool) → Literal → List ℕ → ℕ
longest p q [] = 0
longest p q (c ∷ cs) = if nat_lt 0 (longest p (literal_step q c) cs) then longest p (literal_step q c) cs + 1 else if p (literal_step q c) then 1 else 0

-- behind a - : digits, and then no further byte of a word
abbrev pub is_number_tail : List ℕ → Bool
is_number_tail cs = if nat_lt 0 (run digit_byte cs) then run digit_byte cs == run word_byte cs else false

-- ---- strings and names, where cs comes behind the first byte

-- a quoted string: its size, or 0 where it doesn't close
abbrev pub quoted_size : List ℕ → ℕ
quoted_size cs = if nat_lt (run no_quote cs) (length cs) then run no_quote cs + 2 else 0

-- a word, digits or a quoted string of this class of first byte: its size, or 0
abbrev pub stem_size : Class → List ℕ → ℕ
stem_size Letter cs = run word_byte cs + 1
stem_size Digit cs = run digit_byte cs + 1
stem_size Dash cs = longest is_no_literal Minus (take (run word_byte cs) cs) + 1
stem_size Quote cs = quoted_size cs
stem_size _ cs = 0

abbrev pub name_size : List ℕ → ℕ
name_size [] = 0
name_size (c ∷ cs) = stem_size (class_of c) cs

-- what stands behind a !
abbrev pub meta_size : List ℕ → ℕ
meta_size [] = 0
meta_size (c ∷ cs) = if c == 123 then 1 else stem_size (class_of c) cs

-- a quoted string behind a c
abbrev pub c_text_size : ℕ → List ℕ → ℕ
c_text_size c [] = 0
c_text_size c (d ∷ ds) = if c == 99 then (if d == 34 then quoted_size ds else 0) else 0

-- ---- pieces, where cs comes behind the first byte

-- a label if a colon is next
abbrev pub by_colon : TokenKind → Class → ℕ → Piece
by_colon kind Colon n = piece (Some Label) (n + 1)
by_colon kind _ n = piece (Some kind) n

-- what has a size, behind its sign
abbrev pub by_size : TokenKind → ℕ → Piece → Piece
by_size kind n other = if n == 0 then other else piece (Some kind) (n + 1)

-- a name behind its sign
abbrev pub by_name : TokenKind → ℕ → Piece
by_name kind n = by_size kind n bad_piece

abbrev pub word_piece : List ℕ → Piece
word_piece cs = by_colon Word (class_at (drop (run word_byte cs) cs)) (run word_byte cs + 1)

abbrev pub digits_piece : List ℕ → Piece
digits_piece cs = by_colon Number (class_at (drop (run digit_byte cs) cs)) (run digit_byte cs + 1)

abbrev pub by_tail : Bool → List ℕ → Piece
by_tail true cs = piece (Some Number) (run digit_byte cs + 1)
by_tail false cs = word_piece cs

-- a float literal of f bytes behind the - is it unless a word is longer
abbrev pub dash_piece : ℕ → List ℕ → Piece
dash_piece f cs = if nat_lt f (run word_byte cs) then by_tail (is_number_tail cs) cs else by_size Float f (by_tail (is_number_tail cs) cs)

abbrev pub quote_piece : List ℕ → Piece
quote_piece cs = if nat_lt (run no_quote cs) (length cs) then by_colon Text (class_at (drop (run no_quote cs + 1) cs)) (run no_quote cs + 1 + 1) else bad_piece

-- by the class of the first byte c
abbrev pub by_class : Class → ℕ → List ℕ → Piece
by_class Blank c cs = piece None 1
by_class Semicolon c cs = piece None (run no_line_end cs + 1)
by_class Bracket c cs = piece (Some (Mark c)) 1
by_class Digit c cs = by_size Float (longest is_float (literal_start Digit c) cs) (digits_piece cs)
by_class Dash c cs = dash_piece (longest is_float Minus cs) cs
by_class Letter c cs = by_size CText (c_text_size c cs) (word_piece cs)
by_class Percent c cs = by_name Local (name_size cs)
by_class AtSign c cs = by_name Global (name_size cs)
by_class Quote c cs = quote_piece cs
by_class Hash c cs = by_name Group (run digit_byte cs)
by_class Bang c cs = by_name Meta (meta_size cs)
by_class Colon c cs = bad_piece
by_class Other c cs = bad_piece

-- the piece at the front of a text that is no passive line, or its first byte as a bad one
abbrev pub plain_at : List ℕ → Piece
plain_at [] = bad_piece
plain_at (c ∷ cs) = by_class (class_of c) c cs

-- ---- passive lines

abbrev pub is_blank : Class → Bool
is_blank Blank = true
is_blank _ = false

-- how many bytes are left without the blanks at the end
abbrev pub trimmed : List ℕ → ℕ
trimmed [] = 0
trimmed (c ∷ cs) = if nat_lt 0 (trimmed cs) then trimmed cs + 1 else if is_blank (class_of c) then 0 else 1

abbrev pub begins_with : List ℕ → List ℕ → Bool
begins_with front xs = bytes_eq front (take (length front) xs)

abbrev pub begins_with_one : List (List ℕ) → List ℕ → Bool
begins_with_one [] xs = false
begins_with_one (front ∷ fronts) xs = if begins_with front xs then true else begins_with_one fronts xs

abbrev pub is_meta_by : Class → List ℕ → Bool
is_meta_by Bang cs = nat_lt 0 (meta_size cs)
is_meta_by _ cs = false

abbrev pub begins_with_meta : List ℕ → Bool
begins_with_meta [] = false
begins_with_meta (c ∷ cs) = is_meta_by (class_of c) cs

abbrev pub begins_passive : List ℕ → Bool
begins_passive line = begins_with_one passive_fronts line || begins_with_meta line

-- the first line of the text, without the blanks at its end
abbrev pub line_size : List ℕ → ℕ
line_size text = trimmed (take (run no_line_end text) text)

-- the size of the passive line at the front of a text, or 0
abbrev pub passive_size : List ℕ → ℕ
passive_size text = if begins_passive (take (line_size text) text) then line_size text else 0

-- ---- pieces

-- a passive line of this size, or else what stands there
abbrev pub by_passive : ℕ → Piece → Piece
by_passive n other = if n == 0 then other else piece (Some Passive) n

-- the piece at the front of a text, or its first byte as a bad one
abbrev pub piece_at : Spot → List ℕ → Piece
piece_at spot text = if is_outside spot then by_passive (passive_size text) (plain_at text) else plain_at text

-- of blanks and comments
abbrev pub is_gap : Class → Bool
is_gap Blank = true
is_gap Semicolon = true
is_gap _ = false

-- from one place of the text to another there are pieces, and these are their tokens: whatever pieces make up the rest, together they make up the text from the first place on
pub record Reads (text : List ℕ) (from : Spot) (at : ℕ) (to : Spot) (end : ℕ) (ts : List Token) : Type 0 where
  pub goes_on : (ps : List Piece) → Pieces to (drop end text) ps → (qs : List Piece) × Pieces from (drop at text) qs × (ts ++ tokens_from text end ps ≡ tokens_from text at qs)

-- pieces make up the text, and these are their tokens
abbrev pub ReadsAll : List ℕ → List Token → Type 0
ReadsAll text ts = (ps : List Piece) × Pieces text_start text ps × (ts ≡ tokens_from text 0 ps)
