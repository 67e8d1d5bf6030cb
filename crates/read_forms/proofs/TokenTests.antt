-- The tests of single tokens are exact.
use Rattle.std.proofs.Common.{◌≡◌, ℕ, ◌-◌, List, [], ◌∷◌, Option, Some, None, Bool, true, false, cond, refl, sym, ap, ◌∙◌, subst, inl, inr, ◌⊎◌, if◌then◌else◌, length, take, drop, zero, suc, ◌<◌, ◌++◌, codes, nat_lt, arith}
use Rattle.std.specs.Prelude.{Contains, slice_index_or}
use Rattle.std.proofs.lemmas.Bool.Decides.{nat_tests}
use Rattle.std.specs.Str.{bytes_eq}
use Rattle.std.proofs.lemmas.Slice.Eq.{bytes_eq-Decides}
use Rattle.std.proofs.lemmas.Bool.Decides.{Decides-eqb}
use Rattle.ir_core.specs.Tokens.{Lexeme, TokenKind, Word, Local, Global, Label, Number, Mark}
use Rattle.ir_core.specs.Spell.{InTable, IsWordIn, IsWord, IsMark, with_line}
use Rattle.ir_core.specs.Escapes.{stem_name}
use Rattle.ir_core.specs.Numbers.{is_negative, value_of}
use Rattle.ir_core.specs.Forms.{IsLocal, IsGlobal, IsLabel, IsOneOf, IsNatural}
use Rattle.read_forms.specs.Read.{is_word, is_local, is_global, is_label, is_mark, as_local, as_global, as_label, as_mark, spells_word, as_word, look_up, as_table, lined, with_line_of, all_for, as_one_of, is_number, below, natural_of, as_natural}
use Rattle.read_forms.proofs.Readers.{Tests}

pub chosen : {A : Type 0} (b : Bool) (x y z : A) → cond b x y ≡ z → ((b ≡ true) × (x ≡ z)) ⊎ ((b ≡ false) × (y ≡ z))
chosen true x y z e = inl (refl, e)
chosen false x y z e = inr (refl, e)

-- what is made of what a test lets through
pub chosen_some : {A : Type 0} (b : Bool) (x : Option A) (z : A) → cond b x None ≡ Some z → (b ≡ true) × (x ≡ Some z)
chosen_some true x z e = (refl, e)
chosen_some false x z e = let f : ⊥ = cc in absurd f

pub some_is : {A : Type 0} (x y : A) → ◌≡◌ {A = Option A} (Some x) (Some y) → x ≡ y
some_is x y e = cc

same_bytes : (x w : List ℕ) → bytes_eq x w ≡ true → x ≡ w
same_bytes x w e = (bytes_eq-Decides x w).0 e

bytes_same : (x : List ℕ) → bytes_eq x x ≡ true
bytes_same x = (bytes_eq-Decides x x).1 refl

-- ---- a table of words
abbrev pub fresh : {V : Type 0} → List ℕ → List (List ℕ × V) → Bool
fresh x [] = true
fresh x (e ∷ es) = if bytes_eq e.0 x then false else fresh x es

abbrev pub distinct : {V : Type 0} → List (List ℕ × V) → Bool
distinct [] = true
distinct (e ∷ es) = if fresh e.0 es then distinct es else false

pub look_found : {V : Type 0} (es : List (List ℕ × V)) (x : List ℕ) (v : V) → look_up es x ≡ Some v → InTable es x v
look_found [] x v e = let f : ⊥ = cc in f
look_found (a ∷ es) x v e = elim (chosen (bytes_eq x a.0) _ _ _ e) [
  | inl p ↦ inl (same_bytes x a.0 p.0, let q = p.1 in let k : a.1 ≡ v = cc in sym k)
  | inr p ↦ inr (look_found es x v p.1)
]

pub not_fresh : {V : Type 0} (es : List (List ℕ × V)) (x : List ℕ) (v : V) → InTable es x v → fresh x es ≡ true → ⊥
not_fresh [] x v i e = i
not_fresh (a ∷ es) x v (inl p) e =
    let k : bytes_eq a.0 x ≡ true = subst (λ y. bytes_eq y x ≡ true) p.0 (bytes_same x) in
    let f : false ≡ true = sym (ap (λ (b : Bool). cond b false (fresh x es)) k) ∙ e in
    cc
not_fresh (a ∷ es) x v (inr i) e = elim (chosen (bytes_eq a.0 x) _ _ _ e) [
  | inl p ↦ let q = p.1 in cc
  | inr p ↦ not_fresh es x v i p.1
]

look_later : {V : Type 0} (a : List ℕ × V) (es : List (List ℕ × V)) (x : List ℕ) (v : V) → InTable es x v → look_up es x ≡ Some v → fresh a.0 es ≡ true → (b : Bool) → bytes_eq x a.0 ≡ b → look_up (a ∷ es) x ≡ Some v
look_later a es x v i e f true h = absurd (not_fresh es a.0 v (subst (λ y. InTable es y v) (same_bytes x a.0 h) i) f)
look_later a es x v i e f false h = ap (λ (b : Bool). cond b (Some a.1) (look_up es x)) h ∙ e

pub look_only : {V : Type 0} (es : List (List ℕ × V)) (x : List ℕ) (v : V) → distinct es ≡ true → InTable es x v → look_up es x ≡ Some v
look_only [] x v d i = absurd i
look_only (a ∷ es) x v d (inl p) =
    let k : bytes_eq x a.0 ≡ true = subst (λ y. bytes_eq x y ≡ true) p.0 (bytes_same x) in
    ap (λ (b : Bool). cond b (Some a.1) (look_up es x)) k ∙ ap Some (sym p.1)
look_only (a ∷ es) x v d (inr i) = elim (chosen (fresh a.0 es) _ _ _ d) [
  | inl p ↦ look_later a es x v i (look_only es x v p.1 i) p.0 (bytes_eq x a.0) refl
  | inr p ↦ let q = p.1 in let f : ⊥ = cc in absurd f
]

-- ---- kinds
pub word_kind : (k : TokenKind) → is_word k ≡ true → k ≡ Word
word_kind Word e = refl
word_kind _ e = absurd (let f : false ≡ true = e in cc)

pub local_kind : (k : TokenKind) → is_local k ≡ true → k ≡ Local
local_kind Local e = refl
local_kind _ e = absurd (let f : false ≡ true = e in cc)

pub global_kind : (k : TokenKind) → is_global k ≡ true → k ≡ Global
global_kind Global e = refl
global_kind _ e = absurd (let f : false ≡ true = e in cc)

pub label_kind : (k : TokenKind) → is_label k ≡ true → k ≡ Label
label_kind Label e = refl
label_kind _ e = absurd (let f : false ≡ true = e in cc)

pub mark_kind : (m : ℕ) (k : TokenKind) → is_mark m k ≡ true → k ≡ Mark m
mark_kind m (Mark n) e = ap Mark ((Decides-eqb n m).0 e)
mark_kind m _ e = absurd (let f : false ≡ true = e in cc)

-- a test of the kind, and what the token's bytes and line give
module _ {X : Type 0} (test : TokenKind → Bool) (kind : TokenKind) (exact : (k : TokenKind) → test k ≡ true → k ≡ kind) (holds : test kind ≡ true) (get : Lexeme → X) where
  kind_only : (t : Lexeme) (x : X) → (t.kind ≡ kind) × (get t ≡ x) → cond (test t.kind) (Some (get t)) None ≡ Some x
  kind_only t x h = ap (λ (b : Bool). cond b (Some (get t)) None) (ap test h.0 ∙ holds) ∙ ap Some h.1

  kind_found : (t : Lexeme) (x : X) → cond (test t.kind) (Some (get t)) None ≡ Some x → (t.kind ≡ kind) × (get t ≡ x)
  kind_found t x e = let c = chosen_some (test t.kind) (Some (get t)) x e in (exact t.kind c.0, some_is (get t) x c.1)

  abbrev sample : Lexeme
  sample = record { kind = kind; bytes = []; line = 0 }

  pub kind_tests : Tests (λ t. cond (test t.kind) (Some (get t)) None) (λ t x. (t.kind ≡ kind) × (get t ≡ x))
  kind_tests = record { found = kind_found; only = kind_only; some = sample; value = get sample; holds = (refl, refl) }

pub local_tests : Tests as_local IsLocal
local_tests = kind_tests is_local Local local_kind refl (λ t. stem_name (drop 1 t.bytes))

pub global_tests : Tests as_global IsGlobal
global_tests = kind_tests is_global Global global_kind refl (λ t. stem_name (drop 1 t.bytes))

pub label_tests : Tests as_label IsLabel
label_tests = kind_tests is_label Label label_kind refl (λ t. stem_name (take (length t.bytes - 1) t.bytes))

pub mark_tests : (m : ℕ) → Tests (as_mark m) (IsMark m)
mark_tests m = kind_tests (is_mark m) (Mark m) (mark_kind m) ((Decides-eqb m m).1 refl) (λ t. t.line)

-- ---- words
spells_only : (w : List ℕ) (t : Lexeme) → t.kind ≡ Word → t.bytes ≡ w → spells_word w t ≡ true
spells_only w t k e = ap (λ (q : TokenKind). cond (is_word q) (bytes_eq t.bytes w) false) k ∙ ap (λ (l : List ℕ). bytes_eq l w) e ∙ bytes_same w

pub is_spelled : (w : List ℕ) (t : Lexeme) (line : ℕ) → IsWord w t line → spells_word w t ≡ true
is_spelled w t line h = spells_only w t h.0 h.1

pub spells_found : (w : List ℕ) (t : Lexeme) → spells_word w t ≡ true → (t.kind ≡ Word) × (t.bytes ≡ w)
spells_found w t e = elim (chosen (is_word t.kind) _ _ _ e) [
  | inl p ↦ (word_kind t.kind p.0, same_bytes t.bytes w p.1)
  | inr p ↦ let q = p.1 in let f : ⊥ = cc in absurd f
]

word_found : (w : List ℕ) (t : Lexeme) (line : ℕ) → as_word w t ≡ Some line → IsWord w t line
word_found w t line e =
    let c = chosen_some (spells_word w t) (Some t.line) line e in
    let s = spells_found w t c.0 in
    (s.0, s.1, some_is t.line line c.1)

pub word_only : (w : List ℕ) (t : Lexeme) (line : ℕ) → IsWord w t line → as_word w t ≡ Some line
word_only w t line h = ap (λ (b : Bool). cond b (Some t.line) None) (spells_only w t h.0 h.1) ∙ ap Some h.2

pub word_tests : (w : List ℕ) → Tests (as_word w) (IsWord w)
word_tests w = record {
  found = word_found w;
  only = word_only w;
  some = record { kind = Word; bytes = w; line = 0 };
  value = 0;
  holds = (refl, refl, refl);
}

pub table_only : {V : Type 0} (es : List (List ℕ × V)) (d : distinct es ≡ true) (t : Lexeme) (v : V) → IsWordIn es t v → as_table es t ≡ Some v
table_only es d t v h = ap (λ (k : TokenKind). cond (is_word k) (look_up es t.bytes) None) h.0 ∙ look_only es t.bytes v d h.1

pub table_found : {V : Type 0} (es : List (List ℕ × V)) (t : Lexeme) (v : V) → as_table es t ≡ Some v → IsWordIn es t v
table_found es t v e = let c = chosen_some (is_word t.kind) (look_up es t.bytes) v e in (word_kind t.kind c.0, look_found es t.bytes v c.1)

-- a table with an entry, no word twice
pub table_tests : {V : Type 0} (es : List (List ℕ × V)) → distinct es ≡ true → (x : List ℕ) (v : V) → InTable es x v → Tests (as_table es) (IsWordIn es)
table_tests es d x v i = record { found = table_found es; only = table_only es d; some = record { kind = Word; bytes = x; line = 0 }; value = v; holds = (refl, i) }

-- a word of a table that does not have w is not w
pub not_spelled : {V : Type 0} (es : List (List ℕ × V)) (w : List ℕ) → fresh w es ≡ true → (t : Lexeme) (v : V) → IsWordIn es t v → spells_word w t ≡ false
not_spelled es w f t v h = by_test (spells_word w t) refl
  where
    by_test : (b : Bool) → spells_word w t ≡ b → spells_word w t ≡ false
    by_test true e = absurd (not_fresh es w v (subst (λ l. InTable es l v) (spells_found w t e).1 h.1) f)
    by_test false e = e

-- ---- with the line
module _ {X : Type 0} (f : Lexeme → Option X) (Is : Lexeme → X → Type 0) (tests : Tests f Is) where
  lined_found : (t : Lexeme) (o : Option X) → f t ≡ o → (x : X × ℕ) → lined t.line o ≡ Some x → with_line Is t x
  lined_found t None h x e = let g : ⊥ = cc in absurd g
  lined_found t (Some y) h x e =
      let p : ◌≡◌ {A = X × ℕ} (y, t.line) x = some_is (y, t.line) x e in
      (tests.found t x.0 (h ∙ ap Some (ap (λ q. q.0) p)), ap (λ q. q.1) p)

  lined_only : (t : Lexeme) (x : X × ℕ) → with_line Is t x → with_line_of f t ≡ Some x
  lined_only t x h = ap (lined t.line) (tests.only t x.0 h.0) ∙ ap (λ (n : ℕ). Some (x.0, n)) h.1

  pub lined_tests : Tests (with_line_of f) (with_line Is)
  lined_tests = record {
    found = λ t x e. lined_found t (f t) refl x e;
    only = lined_only;
    some = tests.some;
    value = (tests.value, tests.some.line);
    holds = (tests.holds, refl);
  }

-- ---- words that all stand for the same
pub contains_in : {V : Type 0} (v : V) (ws : List (List ℕ)) (k : ℕ) (x : List ℕ) → k < length ws → slice_index_or ws k x ≡ x → InTable (all_for v ws) x v
contains_in v [] k x l e = absurd (omega arith)
contains_in v (w ∷ ws) zero x l e = inl (sym e, refl)
contains_in v (w ∷ ws) (suc k) x l e = inr (contains_in v ws k x (omega arith) e)

pub in_contains : {V : Type 0} (v u : V) (ws : List (List ℕ)) (x : List ℕ) → InTable (all_for v ws) x u → Contains ws x
in_contains v u [] x i = absurd i
in_contains v u (w ∷ ws) x (inl p) = (0, omega arith, sym p.0)
in_contains v u (w ∷ ws) x (inr i) = let c = in_contains v u ws x i in (suc c.0, (let l = c.1 in omega arith), c.2)

-- a table with an entry more
pub in_front : {V : Type 0} (es fs : List (List ℕ × V)) (x : List ℕ) (v : V) → InTable es x v → InTable (es ++ fs) x v
in_front [] fs x v i = absurd i
in_front (a ∷ es) fs x v (inl p) = inl p
in_front (a ∷ es) fs x v (inr i) = inr (in_front es fs x v i)

pub in_back : {V : Type 0} (es fs : List (List ℕ × V)) (x : List ℕ) (v : V) → InTable fs x v → InTable (es ++ fs) x v
in_back [] fs x v i = i
in_back (a ∷ es) fs x v i = inr (in_back es fs x v i)

one_of_only : (ws : List (List ℕ)) → distinct (all_for (tt {0}) ws) ≡ true → (t : Lexeme) (u : Unit {0}) → IsOneOf ws t → as_one_of ws t ≡ Some u
one_of_only ws d t u h = table_only (all_for (tt {0}) ws) d t tt (h.0, contains_in (tt {0}) ws h.1.0 t.bytes h.1.1 h.1.2)

one_of_found : (ws : List (List ℕ)) (t : Lexeme) (u : Unit {0}) → as_one_of ws t ≡ Some u → IsOneOf ws t
one_of_found ws t u e = let c = table_found (all_for (tt {0}) ws) t u e in (c.0, in_contains (tt {0}) u ws t.bytes c.1)

-- one of these words, of which no two are the same
pub one_of_tests : (ws : List (List ℕ)) → distinct (all_for (tt {0}) ws) ≡ true → (w : List ℕ) → Contains ws w → Tests (as_one_of ws) (λ t u. IsOneOf ws t)
one_of_tests ws d w c = record {
  found = one_of_found ws;
  only = one_of_only ws d;
  some = record { kind = Word; bytes = w; line = 0 };
  value = tt;
  holds = (refl, c);
}

-- ---- numbers without a sign
pub number_kind : (k : TokenKind) → is_number k ≡ true → k ≡ Number
number_kind Number e = refl
number_kind _ e = absurd (let f : false ≡ true = e in cc)

less_found : (a b : ℕ) (c : Bool) → nat_lt a b ≡ c → c ≡ true → a < b
less_found a b c h e = grind (arith, nat_tests)

below_found : (limit m n : ℕ) → below limit m ≡ Some n → (m ≡ n) × (n < limit)
below_found limit m n e =
    let c = chosen_some (nat_lt m limit) (Some m) n e in
    let k = some_is m n c.1 in
    (k, subst (λ (i : ℕ). i < limit) k (less_found m limit (nat_lt m limit) refl c.0))

natural_found : (limit : ℕ) (t : Lexeme) (n : ℕ) → as_natural limit t ≡ Some n → IsNatural limit t n
natural_found limit t n e =
    let c = chosen_some (is_number t.kind) (natural_of limit t.bytes) n e in
    elim (chosen (is_negative t.bytes) None (below limit (value_of t.bytes)) (Some n) c.1) [
      | inl p ↦ let q = p.1 in let f : ⊥ = cc in absurd f
      | inr p ↦ let b = below_found limit (value_of t.bytes) n p.1 in (number_kind t.kind c.0, p.0, b.0, b.1)
    ]

less_only : (m limit : ℕ) → m < limit → nat_lt m limit ≡ true
less_only m limit l = grind (arith, nat_tests)

natural_only : (limit : ℕ) (t : Lexeme) (n : ℕ) → IsNatural limit t n → as_natural limit t ≡ Some n
natural_only limit t n h =
    ap (λ (k : TokenKind). cond (is_number k) (natural_of limit t.bytes) None) h.0
    ∙ ap (λ (b : Bool). cond b None (below limit (value_of t.bytes))) h.1
    ∙ ap (below limit) h.2
    ∙ ap (λ (b : Bool). cond b (Some n) None) (less_only n limit h.3)

pub natural_tests : (limit : ℕ) → 0 < limit → Tests (as_natural limit) (IsNatural limit)
natural_tests limit l = record {
  found = natural_found limit;
  only = natural_only limit;
  some = record { kind = Number; bytes = codes "0"; line = 0 };
  value = 0;
  holds = (refl, refl, refl, l);
}

-- ---- words of one table alone
abbrev pub apart : {V W : Type 0} → List (List ℕ × V) → List (List ℕ × W) → Bool
apart [] fs = true
apart (e ∷ es) fs = if fresh e.0 fs then apart es fs else false

look_past : {W : Type 0} (a : List ℕ × W) (fs : List (List ℕ × W)) (x : List ℕ) → fresh x (a ∷ fs) ≡ true → look_up fs x ≡ None → (b : Bool) → bytes_eq x a.0 ≡ b → look_up (a ∷ fs) x ≡ None
look_past a fs x e f true h = absurd (not_fresh (a ∷ fs) x a.1 (inl (same_bytes x a.0 h, refl)) e)
look_past a fs x e f false h = ap (λ (b : Bool). cond b (Some a.1) (look_up fs x)) h ∙ f

fresh_later : {W : Type 0} (a : List ℕ × W) (fs : List (List ℕ × W)) (x : List ℕ) → fresh x (a ∷ fs) ≡ true → fresh x fs ≡ true
fresh_later a fs x e = elim (chosen (bytes_eq a.0 x) _ _ _ e) [
  | inl p ↦ let q = p.1 in let f : ⊥ = cc in absurd f
  | inr p ↦ p.1
]

look_fresh : {W : Type 0} (fs : List (List ℕ × W)) (x : List ℕ) → fresh x fs ≡ true → look_up fs x ≡ None
look_fresh [] x e = refl
look_fresh (a ∷ fs) x e = look_past a fs x e (look_fresh fs x (fresh_later a fs x e)) (bytes_eq x a.0) refl

look_apart : {V W : Type 0} (es : List (List ℕ × V)) (fs : List (List ℕ × W)) (x : List ℕ) (v : V) → apart es fs ≡ true → InTable es x v → look_up fs x ≡ None
look_apart [] fs x v d i = absurd i
look_apart (a ∷ es) fs x v d (inl p) = elim (chosen (fresh a.0 fs) _ _ _ d) [
  | inl q ↦ look_fresh fs x (ap (λ (l : List ℕ). fresh l fs) p.0 ∙ q.0)
  | inr q ↦ let r = q.1 in let f : ⊥ = cc in absurd f
]
look_apart (a ∷ es) fs x v d (inr i) = elim (chosen (fresh a.0 fs) _ _ _ d) [
  | inl q ↦ look_apart es fs x v q.1 i
  | inr q ↦ let r = q.1 in let f : ⊥ = cc in absurd f
]

-- a word of a table is none of another
pub not_in : {V W : Type 0} (es : List (List ℕ × V)) (fs : List (List ℕ × W)) → apart es fs ≡ true → (t : Lexeme) (v : V) → IsWordIn es t v → as_table fs t ≡ None
not_in es fs d t v h = ap (λ (k : TokenKind). cond (is_word k) (look_up fs t.bytes) None) h.0 ∙ look_apart es fs t.bytes v d h.1

-- what is no word is in no table
pub no_word : {W : Type 0} (fs : List (List ℕ × W)) (t : Lexeme) (k : TokenKind) → t.kind ≡ k → is_word k ≡ false → as_table fs t ≡ None
no_word fs t k e f = ap (λ (j : TokenKind). cond (is_word j) (look_up fs t.bytes) None) e ∙ ap (λ (b : Bool). cond b (look_up fs t.bytes) None) f

pub no_word_spelled : (w : List ℕ) (t : Lexeme) (k : TokenKind) → t.kind ≡ k → is_word k ≡ false → spells_word w t ≡ false
no_word_spelled w t k e f = ap (λ (j : TokenKind). cond (is_word j) (bytes_eq t.bytes w) false) e ∙ ap (λ (b : Bool). cond b (bytes_eq t.bytes w) false) f
