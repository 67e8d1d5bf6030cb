-- What a grammar says, which tokens spell which value; and the first token with which no text of the grammar goes on.
use Rattle.std.specs.Prelude.{◌≡◌, ℕ, List, [], ◌∷◌, ◌++◌, length, ◌⊎◌}
use Rattle.ir_core.specs.Tokens.{Lexeme, Word, Mark}

-- these tokens spell this value
abbrev pub Spell : Type 0 → Type 1
Spell X = List Lexeme → X → Type 0

-- no token
abbrev pub done : {X : Type 0} → X → Spell X
done value ts x = (ts ≡ []) × (x ≡ value)

-- one token that stands for x
abbrev pub one : {X : Type 0} → (Lexeme → X → Type 0) → Spell X
one Is ts x = (t : Lexeme) × Is t x × (ts ≡ t ∷ [])

-- first the one, then the other
infixl 10 ◌>>=◌
abbrev pub ◌>>=◌ : {X Y : Type 0} → Spell X → (X → Spell Y) → Spell Y
◌>>=◌ {X} S T ts y = (x : X) × (front rest : List Lexeme) × S front x × T x rest y × (ts ≡ front ++ rest)

-- one of several forms
abbrev pub any : {K X : Type 0} → (K → Spell X) → Spell X
any {K} S ts x = (form : K) × S form ts x

-- any number, one after another
abbrev pub many : {X : Type 0} → Spell X → Spell (List X)
many S ts [] = ts ≡ []
many S ts (x ∷ xs) = (front rest : List Lexeme) × S front x × many S rest xs × (ts ≡ front ++ rest)

-- a word of a table, and what stands beside it there
abbrev pub InTable : {V : Type 0} → List (List ℕ × V) → List ℕ → V → Type 0
InTable [] word v = ⊥
InTable (e ∷ es) word v = ((word ≡ e.0) × (v ≡ e.1)) ⊎ InTable es word v

abbrev pub IsWordIn : {V : Type 0} → List (List ℕ × V) → Lexeme → V → Type 0
IsWordIn table t v = (t.kind ≡ Word) × InTable table t.bytes v

-- this word, and its line
abbrev pub IsWord : List ℕ → Lexeme → ℕ → Type 0
IsWord word t line = (t.kind ≡ Word) × (t.bytes ≡ word) × (t.line ≡ line)

abbrev pub word : List ℕ → Spell ℕ
word w = one (IsWord w)

-- this mark, and its line
abbrev pub IsMark : ℕ → Lexeme → ℕ → Type 0
IsMark m t line = (t.kind ≡ Mark m) × (t.line ≡ line)

abbrev pub mark : ℕ → Spell ℕ
mark m = one (IsMark m)

-- what a token stands for, with its line
abbrev pub with_line : {X : Type 0} → (Lexeme → X → Type 0) → Lexeme → X × ℕ → Type 0
with_line Is t x = Is t x.0 × (t.line ≡ x.1)

-- ---- lists between marks

-- a list is at its end, or has an item first
pub data Items : Type 0 where
  AtEnd : Items
  OneMore : Items

abbrev pub after_comma : {X : Type 0} → Spell X → Spell X
after_comma S = do
  comma ← mark 44
  S

abbrev pub items : {X : Type 0} → ℕ → Spell X → Items → Spell (List X)
items close S AtEnd = do
  end ← mark close
  done []
items close S OneMore = do
  x ← S
  xs ← many (after_comma S)
  end ← mark close
  done (x ∷ xs)

-- x, .. and the closing mark
abbrev pub list_to : {X : Type 0} → ℕ → Spell X → Spell (List X)
list_to close S = any (items close S)

-- ---- the refused token

-- the same token comes next, where the end counts as a token
abbrev pub SameNext : List Lexeme → List Lexeme → Type 0
SameNext [] [] = Unit {0}
SameNext (t ∷ ts) (u ∷ us) = t ≡ u
SameNext _ _ = ⊥

-- of ts, the token from which on `left` tokens are left is the first such that no text begins with the tokens up to it and with it
pub record IsFirstRefused {X : Type 0} (S : List Lexeme → X → Type 0) (ts : List Lexeme) (left : ℕ) : Type 0 where
  pub front : List Lexeme
  pub rest : List Lexeme
  pub is : ts ≡ front ++ rest
  pub place : length rest ≡ left
  pub more : List Lexeme
  pub value : X
  pub goes_on : S (front ++ more) value
  pub no_text : (other : List Lexeme) (x : X) → SameNext rest other → S (front ++ other) x → ⊥
