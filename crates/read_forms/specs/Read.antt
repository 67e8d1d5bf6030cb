-- Ways to read from left to right, in the same steps as the ways to spell.
use Rattle.std.specs.Prelude.{◌≡◌, ℕ, zero, suc, ◌<◌, ◌-◌, List, [], ◌∷◌, ◌++◌, Option, Some, None, Result, Ok, Err, Bool, true, false, ◌==◌, if◌then◌else◌, length, drop, take, nat_lt}
use Rattle.std.specs.Str.{bytes_eq}
use Rattle.ir_core.specs.declared.answers.Or.{Or}
use Rattle.ir_core.specs.declared.answers.Or.TheVariants.{Refused, Memory}
use Rattle.ir_core.specs.Tokens.{Lexeme, TokenKind, Word, Local, Global, Label, Number, Mark}
use Rattle.ir_core.specs.Numbers.{is_negative, value_of}
use Rattle.ir_core.specs.Escapes.{stem_name}
use Rattle.ir_core.specs.Spell.{Items, AtEnd, OneMore}

-- a value and the rest, or how many tokens were left at the one that stopped the reading
abbrev pub Read : Type 0 → Type 0
Read X = List Lexeme → Result (X × List Lexeme) ℕ

abbrev pub then_read : {X Y : Type 0} → Result (X × List Lexeme) ℕ → (X → Read Y) → Result (Y × List Lexeme) ℕ
then_read (Ok p) g = g p.0 p.1
then_read (Err n) g = Err n

infixl 10 ◌>>=◌
abbrev pub ◌>>=◌ : {X Y : Type 0} → Read X → (X → Read Y) → Read Y
(f >>= g) ts = then_read (f ts) g

abbrev pub done : {X : Type 0} → X → Read X
done x ts = Ok (x, ts)

-- one token that a function makes something of
abbrev pub made : {X : Type 0} → Option X → Lexeme → List Lexeme → Result (X × List Lexeme) ℕ
made (Some x) t rest = Ok (x, rest)
made None t rest = Err (length (t ∷ rest))

abbrev pub one_at : {X : Type 0} → (Lexeme → Option X) → Read X
one_at f [] = Err 0
one_at f (t ∷ rest) = made (f t) t rest

-- ---- by what comes first
abbrev pub head : List Lexeme → Option Lexeme
head [] = None
head (t ∷ ts) = Some t

abbrev pub by_form : {K X : Type 0} → (K → Read X) → Option K → Read X
by_form f None ts = Err (length ts)
by_form f (Some k) ts = f k ts

abbrev pub pick : {K X : Type 0} → (Option Lexeme → Option K) → (K → Read X) → Read X
pick form f ts = by_form f (form (head ts)) ts

abbrev pub goes : {K : Type 0} → Option K → Bool
goes None = false
goes (Some k) = true

-- ---- as long as one more begins
abbrev pub turn : {X : Type 0} → Bool → Read X → Read (List X) → Read (List X)
turn false f more ts = Ok ([], ts)
turn true f more ts = then_read (f ts) (λ x r. then_read (more r) (λ xs s. Ok (x ∷ xs, s)))

-- in at most so many turns
abbrev pub turns : {X : Type 0} → (Option Lexeme → Bool) → Read X → ℕ → Read (List X)
turns p f zero ts = Ok ([], ts)
turns p f (suc n) ts = turn (p (head ts)) f (turns p f n) ts

unfoldable pub many_at : {X : Type 0} → (Option Lexeme → Bool) → Read X → Read (List X)
many_at p f ts = turns p f (length ts) ts

-- what was read before comes first
abbrev pub put_all : {X : Type 0} → List X → Result (List X × List Lexeme) ℕ → Result (List X × List Lexeme) ℕ
put_all out (Ok p) = Ok (out ++ p.0, p.1)
put_all out (Err n) = Err n

-- each value that is read leaves fewer tokens
abbrev pub Shrinks : {X : Type 0} → Read X → Type 0
Shrinks {X} f = (ts : List Lexeme) (x : X) (rest : List Lexeme) → f ts ≡ Ok (x, rest) → length rest < length ts

-- ---- what may be absent, and what is dropped
abbrev pub maybe_at : {X : Type 0} → X → (Option Lexeme → Bool) → Read X → Read X
maybe_at none p f ts = if p (head ts) then f ts else Ok (none, ts)

abbrev pub dropped_at : {X : Type 0} → (Option Lexeme → Bool) → Read X → Read (Unit {0})
dropped_at p f ts = then_read (many_at p f ts) (λ xs. done tt)

-- the one form where the test holds of the next token, else the other
abbrev pub by_test : {X : Type 0} → Read X → Read X → Bool → Read X
by_test f g true = f
by_test f g false = g

abbrev pub either_at : {X : Type 0} → (Option Lexeme → Bool) → Read X → Read X → Read X
either_at p f g = pick (λ o. Some (p o)) (by_test f g)

-- ---- to the end
abbrev pub to_end : {X : Type 0} → X → Read X
to_end x [] = Ok (x, [])
to_end x (t ∷ ts) = Err (length (t ∷ ts))

abbrev pub whole : {X : Type 0} → Read X → Read X
whole f = do
  x ← f
  to_end x

-- ---- single tokens
abbrev pub is_word : TokenKind → Bool
is_word Word = true
is_word _ = false

abbrev pub is_local : TokenKind → Bool
is_local Local = true
is_local _ = false

abbrev pub is_global : TokenKind → Bool
is_global Global = true
is_global _ = false

abbrev pub is_label : TokenKind → Bool
is_label Label = true
is_label _ = false

abbrev pub is_mark : ℕ → TokenKind → Bool
is_mark m (Mark n) = n == m
is_mark m _ = false

abbrev pub as_local : Lexeme → Option (List ℕ)
as_local t = if is_local t.kind then Some (stem_name (drop 1 t.bytes)) else None

abbrev pub as_global : Lexeme → Option (List ℕ)
as_global t = if is_global t.kind then Some (stem_name (drop 1 t.bytes)) else None

abbrev pub as_label : Lexeme → Option (List ℕ)
as_label t = if is_label t.kind then Some (stem_name (take (length t.bytes - 1) t.bytes)) else None

abbrev pub as_mark : ℕ → Lexeme → Option ℕ
as_mark m t = if is_mark m t.kind then Some t.line else None

-- this word
abbrev pub spells_word : List ℕ → Lexeme → Bool
spells_word w t = if is_word t.kind then bytes_eq t.bytes w else false

abbrev pub as_word : List ℕ → Lexeme → Option ℕ
as_word w t = if spells_word w t then Some t.line else None

abbrev pub look_up : {V : Type 0} → List (List ℕ × V) → List ℕ → Option V
look_up [] word = None
look_up (e ∷ es) word = if bytes_eq word e.0 then Some e.1 else look_up es word

abbrev pub as_table : {V : Type 0} → List (List ℕ × V) → Lexeme → Option V
as_table table t = if is_word t.kind then look_up table t.bytes else None

abbrev pub form_in : {K : Type 0} → List (List ℕ × K) → Option Lexeme → Option K
form_in table None = None
form_in table (Some t) = as_table table t

-- whether this word comes next
abbrev pub at_word : List ℕ → Option Lexeme → Bool
at_word w None = false
at_word w (Some t) = spells_word w t

-- words that all stand for the same
abbrev pub all_for : {V : Type 0} → V → List (List ℕ) → List (List ℕ × V)
all_for v [] = []
all_for v (w ∷ ws) = (w, v) ∷ all_for v ws

-- one of these words
abbrev pub as_one_of : List (List ℕ) → Lexeme → Option (Unit {0})
as_one_of words = as_table (all_for (tt {0}) words)

-- ---- numbers without a sign
abbrev pub is_number : TokenKind → Bool
is_number Number = true
is_number _ = false

abbrev pub below : ℕ → ℕ → Option ℕ
below limit n = if nat_lt n limit then Some n else None

abbrev pub natural_of : ℕ → List ℕ → Option ℕ
natural_of limit bytes = if is_negative bytes then None else below limit (value_of bytes)

abbrev pub as_natural : ℕ → Lexeme → Option ℕ
as_natural limit t = if is_number t.kind then natural_of limit t.bytes else None

-- ---- with a line
abbrev pub lined : {X : Type 0} → ℕ → Option X → Option (X × ℕ)
lined line None = None
lined line (Some x) = Some (x, line)

-- with the token's line
abbrev pub with_line_of : {X : Type 0} → (Lexeme → Option X) → Lexeme → Option (X × ℕ)
with_line_of f t = lined t.line (f t)

-- ---- lists between marks
abbrev pub at_mark : ℕ → Option Lexeme → Bool
at_mark m None = false
at_mark m (Some t) = is_mark m t.kind

unfoldable pub after_comma_at : {X : Type 0} → Read X → Read X
after_comma_at f = do
  comma ← one_at (as_mark 44)
  f

-- values behind commas, which follow those that were read before
abbrev pub more_at : {X : Type 0} → Read X → List X → Read (List X)
more_at f out ts = put_all out (many_at (at_mark 44) (after_comma_at f) ts)

unfoldable pub items_at : {X : Type 0} → ℕ → Read X → Items → Read (List X)
items_at close f AtEnd = do
  end ← one_at (as_mark close)
  done []
items_at close f OneMore = do
  x ← f
  xs ← more_at f (x ∷ [])
  end ← one_at (as_mark close)
  done xs

abbrev pub items_form : ℕ → Option Lexeme → Option Items
items_form close o = if at_mark close o then Some AtEnd else Some OneMore

abbrev pub list_at : {X : Type 0} → ℕ → Read X → Read (List X)
list_at close f = pick (items_form close) (items_at close f)

-- ---- what the code returns

abbrev pub Fails : {Y : Type 0} → Or ℕ → Result Y ℕ → Type 0
Fails Memory read = Unit {0}
Fails (Refused n) read = read ≡ Err n

-- what a function returned, seen by view, is what reading gives, unless memory ran out
abbrev pub GivesAs : {X Y : Type 0} → (X → Y) → Result (X × List Lexeme) (Or ℕ) → Result (Y × List Lexeme) ℕ → Type 0
GivesAs view (Ok p) read = read ≡ Ok (view p.0, p.1)
GivesAs view (Err e) read = Fails e read

abbrev pub Gives : {X : Type 0} → Result (X × List Lexeme) (Or ℕ) → Result (X × List Lexeme) ℕ → Type 0
Gives (Ok p) read = read ≡ Ok (p.0, p.1)
Gives (Err e) read = Fails e read
