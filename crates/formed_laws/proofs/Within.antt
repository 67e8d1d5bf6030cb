-- Forms of which no token stands for bytes behind the limit of a text, and how they are put together.
use Rattle.std.proofs.Common.{◌≡◌, ℕ, List, [], ◌∷◌, ◌++◌, sym, subst, inl, inr, ◌⊎◌}
use Rattle.ir_core.specs.Tokens.{TokenKind, Past, Lexeme}
use Rattle.ir_core.specs.Spell.{done, one, ◌>>=◌, any, many, word, Items, AtEnd, OneMore, items, list_to}
use Rattle.ir_core.specs.Forms.{IsNatural, maybe, dropped, next}

-- the token stands for bytes within the limit
abbrev pub IsWithin : TokenKind → Type 0
IsWithin Past = ⊥
IsWithin _ = Unit {0}

abbrev pub AllWithin : List Lexeme → Type 0
AllWithin [] = Unit {0}
AllWithin (t ∷ ts) = IsWithin t.kind × AllWithin ts

-- all tokens of what the form spells do
pub record Within {X : Type 0} (S : List Lexeme → X → Type 0) : Type 0 where
  pub all : (ts : List Lexeme) (x : X) → S ts x → AllWithin ts

joined : (front rest : List Lexeme) → AllWithin front → AllWithin rest → AllWithin (front ++ rest)
joined [] rest h k = k
joined (t ∷ front) rest h k = (h.0, joined front rest h.1 k)

both : (ts front rest : List Lexeme) → ts ≡ front ++ rest → AllWithin front → AllWithin rest → AllWithin ts
both ts front rest e h k = subst AllWithin (sym e) (joined front rest h k)

-- the tokens of the second of two rows
pub second_within : (front rest : List Lexeme) → AllWithin (front ++ rest) → AllWithin rest
second_within [] rest h = h
second_within (t ∷ front) rest h = second_within front rest h.1

-- ---- single tokens

pub within_done : {X : Type 0} {value : X} → Within (done value)
within_done = record { all = λ ts x h. subst AllWithin (sym h.0) tt }

-- a token of which each value tells that it stands within
pub within_one : {X : Type 0} {Is : Lexeme → X → Type 0} → ((t : Lexeme) (x : X) → Is t x → IsWithin t.kind) → Within (one Is)
within_one k = record { all = λ ts x h. subst AllWithin (sym h.2) (k h.0 x h.1, tt) }

pub of_kind : {k l : TokenKind} → l ≡ k → IsWithin k → IsWithin l
of_kind e h = subst IsWithin (sym e) h

-- a token of one kind
pub within_kind : {X : Type 0} {kind : TokenKind} {P : Lexeme → X → Type 0} → IsWithin kind → Within (one (λ t x. (t.kind ≡ kind) × P t x))
within_kind w = within_one (λ t x h. of_kind h.0 w)

-- of which nothing else is asked
pub within_bare : {X : Type 0} {kind : TokenKind} → IsWithin kind → Within (one (λ t (x : X). t.kind ≡ kind))
within_bare w = within_one (λ t x h. of_kind h w)

-- with its line
pub within_lined : {X : Type 0} {kind : TokenKind} {P : Lexeme → X × ℕ → Type 0} → IsWithin kind → Within (one (λ t x. ((t.kind ≡ kind) × P t x) × (t.line ≡ x.1)))
within_lined w = within_one (λ t x h. of_kind h.0.0 w)

pub within_word : {w : List ℕ} → Within (word w)
within_word = within_one (λ t line h. of_kind h.0 tt)

pub within_natural : {limit : ℕ} → Within (one (IsNatural limit))
within_natural = within_one (λ t n h. of_kind h.0 tt)

-- ---- several

pub within_then : {X Y : Type 0} {S : List Lexeme → X → Type 0} {T : X → List Lexeme → Y → Type 0} → Within S → ((x : X) → Within (T x)) → Within (S >>= T)
within_then s t = record { all = λ ts y h. both ts h.1 h.2 h.5 (s.all h.1 h.0 h.3) ((t h.0).all h.2 y h.4) }

pub within_any : {K X : Type 0} {S : K → List Lexeme → X → Type 0} → ((form : K) → Within (S form)) → Within (any S)
within_any s = record { all = λ ts x h. (s h.0).all ts x h.1 }

pub within_either : {X : Type 0} {S T : List Lexeme → X → Type 0} → Within S → Within T → Within (λ ts x. S ts x ⊎ T ts x)
within_either {X} {S} {T} s t = record { all = by }
  where
    by : (ts : List Lexeme) (x : X) → S ts x ⊎ T ts x → AllWithin ts
    by ts x (inl h) = s.all ts x h
    by ts x (inr h) = t.all ts x h

pub within_maybe : {X : Type 0} {none : X} {S : List Lexeme → X → Type 0} → Within S → Within (maybe none S)
within_maybe s = within_either within_done s

many_all : {X : Type 0} (S : List Lexeme → X → Type 0) → Within S → (ts : List Lexeme) (xs : List X) → many S ts xs → AllWithin ts
many_all S s ts [] h = subst AllWithin (sym h) tt
many_all S s ts (x ∷ xs) h = both ts h.0 h.1 h.4 (s.all h.0 x h.2) (many_all S s h.1 xs h.3)

pub within_many : {X : Type 0} {S : List Lexeme → X → Type 0} → Within S → Within (many S)
within_many {S = S} s = record { all = many_all S s }

pub within_dropped : {X : Type 0} {S : List Lexeme → X → Type 0} → Within S → Within (dropped S)
within_dropped s = within_then (within_many s) (λ xs. within_done)

-- behind a comma
pub within_next : {X : Type 0} {S : List Lexeme → X → Type 0} → Within S → Within (next S)
within_next s = within_then (within_kind tt) (λ comma. s)

pub within_list : {X : Type 0} {close : ℕ} {S : List Lexeme → X → Type 0} → Within S → Within (list_to close S)
within_list {close = close} {S = S} s = within_any by
  where
    by : (form : Items) → Within (items close S form)
    by AtEnd = within_then (within_kind tt) (λ end. within_done)
    by OneMore = within_then s (λ x. within_then (within_many (within_next s)) (λ xs. within_then (within_kind tt) (λ end. within_done)))

-- what is asked of every kind but one
pub trivial : Unit {0}
trivial = tt

-- a form of many parts wants a deeper search
pub ruleset within_laws = (trivial, within_done, within_word, within_natural, within_kind, within_bare, within_lined, within_then, within_any, within_maybe, within_many, within_dropped, within_next, within_list)
