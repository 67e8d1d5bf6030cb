-- The tokens of a text: a text is a row of pieces, each the longest at its place, and the tokens are the pieces that are neither blanks nor comments.
use Rattle.std.specs.Prelude.{◌≡◌, ℕ, ◌+◌, ◌-◌, ◌≤◌, List, [], ◌∷◌, ◌++◌, length, take, drop, map, codes, Contains, Option, Some, None, Bool, true, false, ◌==◌, ◌&&◌, nat_lt, if◌then◌else◌, ◌⊎◌}
use Rattle.std.specs.Str.{bytes_eq}
use Rattle.ir_core.specs.Bytes.{Class, Blank, Semicolon, Bracket, Digit, Dash, Letter, Percent, AtSign, Hash, Bang, class_of, is_one_of, word_byte, digit_byte, hex_byte, no_line_end, no_quote, every}

-- what a token is
pub data TokenKind : Type 0 where
  Word : TokenKind
  Local : TokenKind
  Global : TokenKind
  Label : TokenKind
  Number : TokenKind
  Float : TokenKind
  Text : TokenKind
  CText : TokenKind
  Group : TokenKind
  Meta : TokenKind
  Mark : ℕ → TokenKind
  Passive : TokenKind
  Bad : TokenKind
  Past : TokenKind

-- a token is the slice of its text from start to end; its line is that of its first byte, counted from 1
pub record Token : Type 0 where
  pub kind : TokenKind
  pub start : ℕ
  pub end : ℕ
  pub line : ℕ

-- ---- shapes of pieces

abbrev pub Shape : Type 1
Shape = List ℕ → Type 0

-- c stands first, and what follows it has the shape
abbrev pub Led : Class → Shape → Shape
Led first Rest xs = (c : ℕ) × (cs : List ℕ) × (xs ≡ c ∷ cs) × (class_of c ≡ first) × Rest cs

abbrev pub Nothing : Shape
Nothing xs = xs ≡ []

abbrev pub Each : (ℕ → Bool) → Shape
Each p xs = every p xs ≡ true

-- one of these bytes
abbrev pub OneOf : List ℕ → Shape
OneOf bytes xs = (c : ℕ) × (is_one_of bytes c ≡ true) × (xs ≡ c ∷ [])

-- ---- numbers and float literals

abbrev pub IsDigits : Shape
IsDigits = Led Digit (Each digit_byte)

-- digits, with a - before them or not
abbrev pub IsNumber : Shape
IsNumber xs = IsDigits xs ⊎ Led Dash IsDigits xs

-- e or E, a sign or none, and digits
abbrev pub IsExponent : Shape
IsExponent xs = (letter sign digits : List ℕ) × OneOf (codes "eE") letter × (Nothing sign ⊎ OneOf (codes "+-") sign) × IsDigits digits × (xs ≡ letter ++ sign ++ digits)

-- a number with a point, further digits or none, and an exponent or none
abbrev pub IsPointed : Shape
IsPointed xs = (whole digits exponent : List ℕ) × IsNumber whole × Each digit_byte digits × (Nothing exponent ⊎ IsExponent exponent) × (xs ≡ whole ++ codes "." ++ digits ++ exponent)

-- 0x, one of K L M H R or none, and hexadecimal digits
abbrev pub IsHexadecimal : Shape
IsHexadecimal xs = (letter digits : List ℕ) × (Nothing letter ⊎ OneOf (codes "KLMHR") letter) × (1 ≤ length digits) × Each hex_byte digits × (xs ≡ codes "0x" ++ letter ++ digits)

abbrev pub IsFloat : Shape
IsFloat xs = IsPointed xs ⊎ IsHexadecimal xs

-- ---- words, strings and names

-- letters, digits, $ . _ -, not beginning with a digit; what is also a number or a float literal is no word
abbrev pub IsWord : Shape
IsWord xs = (Led Letter (Each word_byte) xs ⊎ Led Dash (Each word_byte) xs) × (IsNumber xs → ⊥) × (IsFloat xs → ⊥)

-- from a quote to the next one
abbrev pub IsQuoted : Shape
IsQuoted xs = (inner : List ℕ) × Each no_quote inner × (xs ≡ 34 ∷ (inner ++ 34 ∷ []))

-- what stands behind the sign of a name, and before the colon of a label
abbrev pub IsStem : Shape
IsStem xs = IsWord xs ⊎ IsDigits xs ⊎ IsQuoted xs

abbrev pub IsLabel : Shape
IsLabel xs = (stem : List ℕ) × IsStem stem × (xs ≡ stem ++ codes ":")

-- a name of metadata, or the beginning of a node
abbrev pub IsMeta : Shape
IsMeta = Led Bang (λ xs. IsStem xs ⊎ (xs ≡ codes "{"))

-- a piece of this kind, but for passive lines; none: a blank, or a comment, which runs to the end of its line
abbrev pub IsPlain : Option TokenKind → Shape
IsPlain None xs = Led Blank Nothing xs ⊎ Led Semicolon (Each no_line_end) xs
IsPlain (Some Word) xs = IsWord xs
IsPlain (Some Local) xs = Led Percent IsStem xs
IsPlain (Some Global) xs = Led AtSign IsStem xs
IsPlain (Some Label) xs = IsLabel xs
IsPlain (Some Number) xs = IsNumber xs
IsPlain (Some Float) xs = IsFloat xs
IsPlain (Some Text) xs = IsQuoted xs
IsPlain (Some CText) xs = (text : List ℕ) × IsQuoted text × (xs ≡ codes "c" ++ text)
IsPlain (Some Group) xs = Led Hash IsDigits xs
IsPlain (Some Meta) xs = IsMeta xs
IsPlain (Some (Mark m)) xs = (xs ≡ m ∷ []) × (class_of m ≡ Bracket)
IsPlain (Some Passive) xs = ⊥
IsPlain (Some Bad) xs = ⊥
IsPlain (Some Past) xs = ⊥

-- ---- passive lines: what stands at the front of a line outside braces and begins so is kept whole, without blanks at its ends

abbrev pub passive_fronts : List (List ℕ)
passive_fronts = codes "$" ∷ codes "attributes" ∷ codes "source_filename" ∷ codes "target" ∷ codes "@llvm." ∷ []

abbrev pub IsPassiveFront : Shape
IsPassiveFront xs = Contains passive_fronts xs ⊎ IsMeta xs

abbrev pub EndsInNoBlank : Shape
EndsInNoBlank xs = (before : List ℕ) × (c : ℕ) × (xs ≡ before ++ c ∷ []) × (class_of c ≡ Blank → ⊥)

abbrev pub IsPassive : Shape
IsPassive xs = (front rest : List ℕ) × IsPassiveFront front × (xs ≡ front ++ rest) × Each no_line_end xs × EndsInNoBlank xs

-- where a piece stands: how many braces are open, and whether blanks alone stand before it on its line
pub record Spot : Type 0 where
  pub depth : ℕ
  pub first : Bool

abbrev pub text_start : Spot
text_start = record { depth = 0; first = true }

-- whether a passive line may stand there
abbrev pub is_outside : Spot → Bool
is_outside spot = spot.first && (spot.depth == 0)

-- a piece of this kind; where a passive line may stand, what begins as one is no other piece
abbrev pub Is : Spot → Option TokenKind → Shape
Is spot (Some Passive) xs = (is_outside spot ≡ true) × IsPassive xs
Is spot kind xs = IsPlain kind xs × (is_outside spot ≡ true → (line rest : List ℕ) → IsPassive line → xs ≡ line ++ rest → ⊥)

-- how many braces are open behind a token; never fewer than none
abbrev pub open_behind : TokenKind → List ℕ → ℕ → ℕ
open_behind (Mark m) xs n = if m == 123 then n + 1 else if m == 125 then n - 1 else n
open_behind Meta xs n = if bytes_eq xs (codes "!{") then n + 1 else n
open_behind _ xs n = n

-- where the next piece stands, behind a piece with these bytes
abbrev pub behind : Spot → Option TokenKind → List ℕ → Spot
behind spot None xs = record spot { first = if bytes_eq xs (10 ∷ []) then true else spot.first }
behind spot (Some kind) xs = record { depth = open_behind kind xs spot.depth; first = false }

-- ---- a text as a row of pieces

pub record Piece : Type 0 where
  pub kind : Option TokenKind
  pub size : ℕ

-- the first n bytes of the text are a piece of this kind, and no piece there is longer
pub record IsLongest (spot : Spot) (text : List ℕ) (kind : Option TokenKind) (n : ℕ) : Type 0 where
  pub inside : n ≤ length text
  pub is : Is spot kind (take n text)
  pub longest : (other : Option TokenKind) (front rest : List ℕ) → Is spot other front → text ≡ front ++ rest → length front ≤ n

-- no piece stands at the front
abbrev pub BeginsNone : Spot → List ℕ → Type 0
BeginsNone spot text = (kind : Option TokenKind) (front rest : List ℕ) → Is spot kind front → text ≡ front ++ rest → ⊥

-- the first byte of the text begins no piece, and is all that is left of the tokens
abbrev pub IsBad : Spot → List ℕ → Piece → List Piece → Type 0
IsBad spot text p ps = (p ≡ record { kind = Some Bad; size = 1 }) × (ps ≡ []) × (1 ≤ length text) × BeginsNone spot text

-- piece after piece to the end, or to the first byte that begins none
abbrev pub Pieces : Spot → List ℕ → List Piece → Type 0
Pieces spot text [] = text ≡ []
Pieces spot text (p ∷ ps) = (IsLongest spot text p.kind p.size × Pieces (behind spot p.kind (take p.size text)) (drop p.size text) ps) ⊎ IsBad spot text p ps

-- how many line ends there are
abbrev pub line_ends : List ℕ → ℕ
line_ends [] = 0
line_ends (c ∷ cs) = if c == 10 then line_ends cs + 1 else line_ends cs

-- the line on which the byte at a place stands
abbrev pub line_at : List ℕ → ℕ → ℕ
line_at text at = line_ends (take at text) + 1

abbrev pub kept : List ℕ → Option TokenKind → ℕ → ℕ → List Token
kept text None start end = []
kept text (Some kind) start end = record { kind = kind; start = start; end = end; line = line_at text start } ∷ []

-- the pieces from a place on that are tokens
abbrev pub tokens_from : List ℕ → ℕ → List Piece → List Token
tokens_from text at [] = []
tokens_from text at (p ∷ ps) = kept text p.kind at (at + p.size) ++ tokens_from text (at + p.size) ps

-- ---- the limit of a text

-- 4,194,304 bytes
unfoldable pub text_limit : ℕ
text_limit = 4194304

abbrev pub is_bad_kind : TokenKind → Bool
is_bad_kind Bad = true
is_bad_kind _ = false

abbrev pub has_bad : List Token → Bool
has_bad [] = false
has_bad (t ∷ ts) = if is_bad_kind t.kind then true else has_bad ts

-- what ends the tokens of a text that is longer than the limit, unless a byte has ended them already
abbrev pub past_limit : List ℕ → List Token → List Token
past_limit text ts = if nat_lt text_limit (length text) then (if has_bad ts then [] else kept text (Some Past) text_limit (text_limit + 1)) else []

abbrev pub with_past : List ℕ → List Token → List Token
with_past text ts = ts ++ past_limit text ts

-- these are the tokens of the text, of which no byte behind the limit is looked at
abbrev pub Lexes : List ℕ → List Token → Type 0
Lexes text ts = (ps : List Piece) × Pieces text_start (take text_limit text) ps × (ts ≡ with_past text (tokens_from (take text_limit text) 0 ps))

-- ---- tokens with their bytes

-- a token as the grammar sees it
pub record Lexeme : Type 0 where
  pub kind : TokenKind
  pub bytes : List ℕ
  pub line : ℕ

abbrev pub lexeme_of : List ℕ → Token → Lexeme
lexeme_of text t = record { kind = t.kind; bytes = take (t.end - t.start) (drop t.start text); line = t.line }

abbrev pub lexemes : List ℕ → List Token → List Lexeme
lexemes text ts = map (lexeme_of text) ts
