-- Names, groups and words: what spells them is spelled by their canonical text.
use Rattle.std.proofs.Common.{◌≡◌, inl, inr, ℕ, ◌+◌, ◌-◌, List, [], ◌∷◌, ◌++◌, length, take, drop, true, false, ◌==◌, refl, sym, ap, ◌∙◌, subst, arith, length-append, take_at}
use Rattle.std.proofs.lemmas.Bool.{eqb-true}
use Rattle.ir_core.specs.Escapes.{stem_name, quoted_bytes}
use Rattle.ir_core.specs.Formed.{is_byte}
use Rattle.ir_core.specs.Tokens.{Local, Global, Label, Lexeme}
use Rattle.ir_core.specs.Spell.{one, InTable, IsWordIn}
use Rattle.ir_core.specs.Forms.{IsLocal, IsGlobal, IsLabel}
use Rattle.ir_core.specs.Text.{is_word, name_text, quoted, local_text, global_name_text}
use Rattle.ir_core.proofs.Runs.{by_test, if_true, if_false, every_first, every_taken}
use Rattle.text_laws.proofs.Rows.{Bare, bare}
use Rattle.text_laws.proofs.Joined.{Gives, gives_word}
use Rattle.text_laws.proofs.Spelled.{Shows, spelled_one, shows_in}
use Rattle.text_laws.proofs.Escaped.{quoted_back, name_text_bytes, stem_bytes}
use Rattle.text_laws.specs.Spelling.{AreBytes, IsSpelled}
use Rattle.text_laws.proofs.Quoted.{begins_gives, local_begins, global_begins}
use Rattle.text_laws.proofs.Good.{Stands, good_one}
use Rattle.text_laws.proofs.Back.{Back, Says}

-- ---- the name that a token spells

word_stem : (x : List ℕ) → is_word x ≡ true → stem_name x ≡ x
word_stem [] h = refl
word_stem (c ∷ cs) h = by_test (c == 34) (λ e. absurd (quote c cs h e)) (λ e. if_false (c == 34) (quoted_bytes (c ∷ cs)) (c ∷ cs) e)
  where
    quote : (c : ℕ) (cs : List ℕ) → is_word (c ∷ cs) ≡ true → (c == 34) ≡ true → ⊥
    quote c cs h e = let f : false ≡ true = subst (λ d. is_word (d ∷ cs) ≡ true) (eqb-true c 34 e) h in cc

-- a name in its canonical text is the name
pub name_stem : (x : List ℕ) → AreBytes x → stem_name (name_text x) ≡ x
name_stem x h = by_test (is_word x)
    (λ w. ap stem_name (if_true _ _ _ w) ∙ word_stem x w)
    (λ w. ap stem_name (if_false (is_word x) x (quoted x) w) ∙ quoted_back x h)

pub drop_bytes : (xs : List ℕ) → AreBytes xs → AreBytes (drop 1 xs)
drop_bytes [] h = refl
drop_bytes (x ∷ xs) h = (every_first is_byte x xs h).1

-- the names that tokens spell are bytes
pub local_bytes : {x : List ℕ} → Stands IsLocal x → AreBytes x
local_bytes s = subst AreBytes s.is.1 (stem_bytes (drop 1 s.token.bytes) (drop_bytes s.token.bytes s.fine.bytes))

pub global_bytes : {x : List ℕ} → Stands IsGlobal x → AreBytes x
global_bytes s = subst AreBytes s.is.1 (stem_bytes (drop 1 s.token.bytes) (drop_bytes s.token.bytes s.fine.bytes))

pub label_bytes : {x : List ℕ} → Stands IsLabel x → AreBytes x
label_bytes s = subst AreBytes s.is.1 (stem_bytes (take (length s.token.bytes - 1) s.token.bytes) (every_taken is_byte (length s.token.bytes - 1) s.token.bytes s.fine.bytes))

-- ---- the tokens of names

abbrev pub local_bare : List ℕ → Bare
local_bare x = bare Local (local_text x)

abbrev pub global_bare : List ℕ → Bare
global_bare x = bare Global (global_name_text x)

abbrev pub label_bare : List ℕ → Bare
label_bare x = bare Label (name_text x ++ 58 ∷ [])

pub shows_local : (x : List ℕ) → AreBytes x → Shows IsLocal (local_bare x) (λ y. y ≡ x)
shows_local x h t e = (x, (ap (λ (b : Bare). b.kind) e, ap (λ (b : Bare). stem_name (drop 1 b.bytes)) e ∙ name_stem x h), refl)

pub shows_global : (x : List ℕ) → AreBytes x → Shows IsGlobal (global_bare x) (λ y. y ≡ x)
shows_global x h t e = (x, (ap (λ (b : Bare). b.kind) e, ap (λ (b : Bare). stem_name (drop 1 b.bytes)) e ∙ name_stem x h), refl)

pub shows_label : (x : List ℕ) → AreBytes x → Shows IsLabel (label_bare x) (λ y. y ≡ x)
shows_label x h t e = (x, (ap (λ (b : Bare). b.kind) e, ap (λ (b : Bare). stem_name (take (length b.bytes - 1) b.bytes)) e ∙ ap stem_name without_colon ∙ name_stem x h), refl)
  where
    without_colon : take (length (name_text x ++ 58 ∷ []) - 1) (name_text x ++ 58 ∷ []) ≡ name_text x
    without_colon = ap (λ n. take n (name_text x ++ 58 ∷ [])) (let l : length (name_text x ++ 58 ∷ []) ≡ length (name_text x) + 1 = length-append (name_text x) (58 ∷ []) in let z : length (name_text x ++ 58 ∷ []) - 1 ≡ length (name_text x) = omega arith in z) ∙ take_at (name_text x) (58 ∷ []) (length (name_text x)) refl

pub gives_local : (x : List ℕ) → AreBytes x → Gives (local_text x) (local_bare x ∷ [])
gives_local x h = begins_gives Local (37 ∷ name_text x) (λ s. refl) (name_text_bytes x h) (omega arith) (λ f. cc) (local_begins x h)

pub gives_global : (x : List ℕ) → AreBytes x → Gives (global_name_text x) (global_bare x ∷ [])
gives_global x h = begins_gives Global (64 ∷ name_text x) (λ s. refl) (name_text_bytes x h) (omega arith) (λ f. cc) (global_begins x h)

pub says_token : {X : Type 0} {Is : Lexeme → X → Type 0} {b : Bare} {text : List ℕ} {P : X → Type 0} → Gives text (b ∷ []) → Shows Is b P → Back Gives text (one Is) P
says_token {b = b} g s = record { tokens = b ∷ []; lexed = g; spelled = spelled_one s }

pub local_says : (x : List ℕ) → IsSpelled (one IsLocal) x → Says (local_text x) (one IsLocal) x
local_says x g = let b = local_bytes (good_one g) in says_token (gives_local x b) (shows_local x b)

-- ---- words of tables

-- the texts of a table's values are their words
abbrev pub WordsAre : {V : Type 0} → (V → List ℕ) → List (List ℕ × V) → Type 0
WordsAre show [] = Unit {0}
WordsAre show (e ∷ es) = (show e.1 ≡ e.0) × (is_word e.0 ≡ true) × WordsAre show es

pub in_table : {V : Type 0} (show : V → List ℕ) (table : List (List ℕ × V)) → WordsAre show table → (w : List ℕ) (v : V) → InTable table w v → (show v ≡ w) × (is_word w ≡ true)
in_table show [] a w v h = absurd h
in_table show (e ∷ es) a w v (inl h) = (ap show h.1 ∙ a.0 ∙ sym h.0, ap is_word h.0 ∙ a.1)
in_table show (e ∷ es) a w v (inr h) = in_table show es a.2 w v h

pub table_says : {V : Type 0} (show : V → List ℕ) (table : List (List ℕ × V)) → WordsAre show table → (v : V) → IsSpelled (one (IsWordIn table)) v → Says (show v) (one (IsWordIn table)) v
table_says show table a v g =
    let s = good_one g in
    let w = s.token.bytes in
    let t = in_table show table a w v s.is.1 in
    subst (λ x. Says x (one (IsWordIn table)) v) (sym t.0) (says_token (gives_word w t.1) (shows_in table w v s.is.1))
