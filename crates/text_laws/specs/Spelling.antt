-- Values that some tokens of a text of bytes spell.
use Rattle.std.specs.Prelude.{◌≡◌, ℕ, List, true}
use Rattle.std.specs.List.{AllByRecursion}
use Rattle.ir_core.specs.Bytes.{Hash, every}
use Rattle.ir_core.specs.Formed.{is_byte}
use Rattle.ir_core.specs.Tokens.{TokenKind, Group, Passive, Led, IsDigits, IsPassive, Lexeme}

abbrev pub AreBytes : List ℕ → Type 0
AreBytes x = every is_byte x ≡ true

-- groups and passive lines are kept as they are written; of other tokens what they stand for is kept
abbrev pub Shaped : TokenKind → List ℕ → Type 0
Shaped Group xs = Led Hash IsDigits xs
Shaped Passive xs = IsPassive xs
Shaped _ xs = Unit {0}

-- what a text of bytes shows of the bytes of a token
pub record IsFine (kind : TokenKind) (xs : List ℕ) : Type 0 where
  pub bytes : AreBytes xs
  pub shape : Shaped kind xs

abbrev pub AllFine : List Lexeme → Type 0
AllFine = AllByRecursion (λ t. IsFine t.kind t.bytes)

-- some tokens of a text of bytes spell the value by the form
pub record IsSpelled {X : Type 0} (S : List Lexeme → X → Type 0) (x : X) : Type 0 where
  pub tokens : List Lexeme
  pub fine : AllFine tokens
  pub is : S tokens x
