-- Classes, pieces and places of the code, as the definitions see them.
use Rattle.std.specs.Prelude.{◌≡◌, ℕ, ◌+◌, ◌≤◌, List, [], length, take, drop, Some, false}
use Rattle.ir_core.specs.Bytes as bytes
use Rattle.ir_core.specs.Tokens as meaning
use Rattle.ir_core.specs.Tokens.{line_at, has_bad, text_start, behind}
use Rattle.ir_core.specs.Scan as scan
use Rattle.ir_core.specs.Scan.{class_at, is_gap, Reads, ReadsAll}
use Rattle.ir_lex.specs.Seen.{kind_seen, tokens_seen}
use Rattle.ir_lex.specs.declared.class.Class.{Class}
use Rattle.ir_lex.specs.declared.class.Class.TheVariants.{Blank, Semicolon, Bracket, Digit, Dash, Letter, Percent, AtSign, Colon, Quote, Hash, Bang, Other}
use Rattle.ir_lex.specs.declared.literal.Literal.{Literal}
use Rattle.ir_lex.specs.declared.literal.Literal.TheVariants.{Minus, Zero, Whole, Point, Exponent, Sign, Power, Prefix, Format, Hexadecimal, Neither}
use Rattle.ir_lex.specs.declared.scan.Piece.{Piece}
use Rattle.ir_lex.specs.declared.gaps.Place.{Place}
use Rattle.ir_lex.specs.declared.read.Read.{Read}
use Rattle.ir_lex.specs.declared.token.Token.{Token}

abbrev pub class_seen : Class → bytes.Class
class_seen Blank = bytes.Blank
class_seen Semicolon = bytes.Semicolon
class_seen Bracket = bytes.Bracket
class_seen Digit = bytes.Digit
class_seen Dash = bytes.Dash
class_seen Letter = bytes.Letter
class_seen Percent = bytes.Percent
class_seen AtSign = bytes.AtSign
class_seen Colon = bytes.Colon
class_seen Quote = bytes.Quote
class_seen Hash = bytes.Hash
class_seen Bang = bytes.Bang
class_seen Other = bytes.Other

abbrev pub literal_seen : Literal → scan.Literal
literal_seen Minus = scan.Minus
literal_seen Zero = scan.Zero
literal_seen Whole = scan.Whole
literal_seen Point = scan.Point
literal_seen Exponent = scan.Exponent
literal_seen Sign = scan.Sign
literal_seen Power = scan.Power
literal_seen Prefix = scan.Prefix
literal_seen Format = scan.Format
literal_seen Hexadecimal = scan.Hexadecimal
literal_seen Neither = scan.Neither

abbrev pub piece_seen : Piece → meaning.Piece
piece_seen p = record { kind = Some (kind_seen p.kind); size = p.size }

abbrev pub spot_seen : Place → meaning.Spot
spot_seen p = record { depth = p.depth; first = p.first }

-- a place of the text, and its line
pub record IsPlace (text : List ℕ) (place : Place) : Type 0 where
  pub inside : place.at ≤ length text
  pub line_is : place.line ≡ line_at text place.at
  pub shallow : place.depth ≤ place.at

-- between the two places there are blanks and comments alone
pub record IsGap (text : List ℕ) (start end : Place) : Type 0 where
  pub is_place : IsPlace text end
  pub onward : start.at ≤ end.at
  pub reads : Reads text (spot_seen start) start.at (spot_seen end) end.at []

-- no blank and no comment begins here
abbrev pub BeginsToken : List ℕ → ℕ → Type 0
BeginsToken text at = is_gap (class_at (drop at text)) ≡ false

-- the second place is right behind this token at the first
pub record IsBehind (text : List ℕ) (place : Place) (token : Piece) (end : Place) : Type 0 where
  pub is_place : IsPlace text end
  pub at_is : end.at ≡ place.at + token.size
  pub spot_is : spot_seen end ≡ behind (spot_seen place) (Some (kind_seen token.kind)) (take token.size (drop place.at text))

-- the tokens up to a place, of which none is bad
pub record SoFar (text : List ℕ) (tokens : List Token) (place : Place) : Type 0 where
  pub is_place : IsPlace text place
  pub begins : BeginsToken text place.at
  pub reads : Reads text text_start 0 (spot_seen place) place.at (tokens_seen tokens)
  pub good : has_bad (tokens_seen tokens) ≡ false

-- all the tokens, whether the last is bad, and, if not, the last line
pub record IsRead (text : List ℕ) (read : Read) : Type 0 where
  pub reads : ReadsAll text (tokens_seen read.tokens)
  pub bad : has_bad (tokens_seen read.tokens) ≡ read.bad
  pub line_is : read.bad ≡ false → read.line ≡ line_at text (length text)
