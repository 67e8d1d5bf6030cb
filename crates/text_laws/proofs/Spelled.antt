-- Tokens without their places and lines, and what they spell.
use Rattle.std.proofs.Common.{◌≡◌, ℕ, List, [], ◌∷◌, ◌++◌, map, refl, sym, ap, ◌∙◌, subst}
use Rattle.ir_core.specs.Tokens.{Word, Mark, Lexeme}
use Rattle.ir_core.specs.Spell.{done, one, ◌>>=◌, any, InTable, IsWordIn, IsWord, IsMark, with_line}
use Rattle.text_laws.proofs.Rows.{Bare, bare, bare_of}

-- all tokens that are these, on whatever lines, spell something with the property
pub record Spelled {X : Type 0} (S : List Lexeme → X → Type 0) (ls : List Bare) (P : X → Type 0) : Type 0 where
  pub all : (ts : List Lexeme) → map bare_of ts ≡ ls → (x : X) × S ts x × P x

-- so does a token
abbrev pub Shows : {X : Type 0} → (Lexeme → X → Type 0) → Bare → (X → Type 0) → Type 0
Shows {X} Is b P = (t : Lexeme) → bare_of t ≡ b → (x : X) × Is t x × P x

pub no_tokens : (ts : List Lexeme) → map bare_of ts ≡ [] → ts ≡ []
no_tokens [] e = refl
no_tokens (t ∷ ts) e = absurd (cc)

-- tokens that are two rows are two rows
pub record Parted (ts : List Lexeme) (ls ms : List Bare) : Type 0 where
  pub front : List Lexeme
  pub rest : List Lexeme
  pub whole : ts ≡ front ++ rest
  pub front_is : map bare_of front ≡ ls
  pub rest_is : map bare_of rest ≡ ms

pub part : (ts : List Lexeme) (ls ms : List Bare) → map bare_of ts ≡ ls ++ ms → Parted ts ls ms
part ts [] ms e = record { front = []; rest = ts; whole = refl; front_is = refl; rest_is = e }
part [] (a ∷ ls) ms e = absurd (let f : ◌≡◌ {A = List Bare} [] (a ∷ (ls ++ ms)) = e in cc)
part (t ∷ ts) (a ∷ ls) ms e =
    let f : bare_of t ∷ map bare_of ts ≡ a ∷ (ls ++ ms) = e in
    let h : bare_of t ≡ a = cc in
    let k : map bare_of ts ≡ ls ++ ms = cc in
    let r = part ts ls ms k in
    record { front = t ∷ r.front; rest = r.rest; whole = ap (λ l. t ∷ l) r.whole; front_is = ap (λ b. b ∷ map bare_of r.front) h ∙ ap (λ l. a ∷ l) r.front_is; rest_is = r.rest_is }

-- ---- how spellings are put together

-- no token
pub spelled_done : {X : Type 0} (x : X) (P : X → Type 0) → P x → Spelled (done x) [] P
spelled_done x P h = record { all = λ ts e. (x, (no_tokens ts e, refl), h) }

-- first the one, then the other
pub spelled_then : {X Y : Type 0} {S : List Lexeme → X → Type 0} {T : X → List Lexeme → Y → Type 0} {ls ms : List Bare} {P : X → Type 0} {Q : Y → Type 0} → Spelled S ls P → ((x : X) → P x → Spelled (T x) ms Q) → Spelled (S >>= T) (ls ++ ms) Q
spelled_then {ls = ls} {ms = ms} s t = record {
  all = λ ts e.
      let r = part ts ls ms e in
      let a = s.all r.front r.front_is in
      let b = (t a.0 a.2).all r.rest r.rest_is in
      (b.0, (a.0, r.front, r.rest, a.1, b.1, r.whole), b.2);
}

-- one token
pub spelled_one : {X : Type 0} {Is : Lexeme → X → Type 0} {b : Bare} {P : X → Type 0} → Shows Is b P → Spelled (one Is) (b ∷ []) P
spelled_one {X = X} {Is = Is} {b = b} {P = P} h = record { all = λ ts e. by ts e }
  where
    by : (ts : List Lexeme) → map bare_of ts ≡ b ∷ [] → (x : X) × one Is ts x × P x
    by [] e = absurd (let f : ◌≡◌ {A = List Bare} [] (b ∷ []) = e in cc)
    by (t ∷ ts) e =
        let f : bare_of t ∷ map bare_of ts ≡ b ∷ [] = e in
        let k : bare_of t ≡ b = cc in
        let n : map bare_of ts ≡ [] = cc in
        let r = h t k in
        (r.0, (t, r.1, ap (λ l. t ∷ l) (no_tokens ts n)), r.2)

-- a token, and then the rest
pub token_then : {X Y : Type 0} {Is : Lexeme → X → Type 0} {T : X → List Lexeme → Y → Type 0} {b : Bare} {ms : List Bare} {P : X → Type 0} {Q : Y → Type 0} → Shows Is b P → ((x : X) → P x → Spelled (T x) ms Q) → Spelled (one Is >>= T) (b ∷ ms) Q
token_then h t = spelled_then (spelled_one h) t

-- the same where only one value is meant
pub spelled_same : {X Y : Type 0} {S : List Lexeme → X → Type 0} {T : X → List Lexeme → Y → Type 0} {ls ms : List Bare} {v : X} {Q : Y → Type 0} → Spelled S ls (λ x. x ≡ v) → Spelled (T v) ms Q → Spelled (S >>= T) (ls ++ ms) Q
spelled_same {T = T} {ms = ms} {Q = Q} s t = spelled_then {T = T} {ms = ms} {Q = Q} s (λ x p. subst (λ y. Spelled (T y) ms Q) (sym p) t)

-- the same tokens written otherwise
pub spelled_as : {X : Type 0} {S : List Lexeme → X → Type 0} {ls ms : List Bare} {P : X → Type 0} → ls ≡ ms → Spelled S ls P → Spelled S ms P
spelled_as {S = S} {P = P} e s = subst (λ l. Spelled S l P) e s

-- one of several forms
pub spelled_any : {K X : Type 0} {S : K → List Lexeme → X → Type 0} {ls : List Bare} {P : X → Type 0} (form : K) → Spelled (S form) ls P → Spelled (any S) ls P
spelled_any form s = record { all = λ ts e. let a = s.all ts e in (a.0, (form, a.1), a.2) }

-- ---- single tokens

pub shows_word : (w : List ℕ) → Shows (IsWord w) (bare Word w) (λ line. Unit {0})
shows_word w t e = (t.line, (ap (λ (b : Bare). b.kind) e, ap (λ (b : Bare). b.bytes) e, refl), tt)

pub shows_mark : (m : ℕ) → Shows (IsMark m) (bare (Mark m) (m ∷ [])) (λ line. Unit {0})
shows_mark m t e = (t.line, (ap (λ (b : Bare). b.kind) e, refl), tt)

-- a word of a table, and what stands beside it
pub shows_in : {V : Type 0} (table : List (List ℕ × V)) (w : List ℕ) (v : V) → InTable table w v → Shows (IsWordIn table) (bare Word w) (λ x. x ≡ v)
shows_in table w v h t e = (v, (ap (λ (b : Bare). b.kind) e, subst (λ b. InTable table b v) (sym (ap (λ (b : Bare). b.bytes) e)) h), refl)

-- what a token stands for, with its line
pub shows_line : {X : Type 0} {Is : Lexeme → X → Type 0} {b : Bare} {P : X → Type 0} → Shows Is b P → Shows (with_line Is) b (λ x. P x.0)
shows_line h t e = let r = h t e in ((r.0, t.line), (r.1, refl), r.2)
