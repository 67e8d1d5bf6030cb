-- Functions are read as they are spelled.
use Rattle.std.proofs.Common.{◌≡◌, ℕ, List, [], ◌∷◌, ◌++◌, codes, take, Option, Some, None, Bool, true, false, cond, refl, sym, ap, ◌∙◌, inl, inr, append_assoc, arith}
use Rattle.std.specs.Prelude.{not}
use Rattle.std.specs.List.{flat_map}
use Rattle.std.specs.Str.{bytes_eq}
use Rattle.ir_core.specs.declared.types.Ty.{Ty}
use Rattle.ir_core.specs.Tokens.{Lexeme, TokenKind, Word, Local, Group, Mark}
use Rattle.ir_core.specs.Spell.{any, many, one, IsWord, IsWordIn, InTable, IsMark, mark, word, with_line, list_to}
use Rattle.ir_core.specs.Spell as spell
use Rattle.ir_core.specs.Forms.{maybe, dropped, IsLocal, type_, attributes, attribute_form, AttributeForm, nesting_limit}
use Rattle.ir_core.specs.Instructions.{plain_function_words}
use Rattle.ir_core.specs.Language.{Unnumbered, IsDollar, comdat_name, text_value, FunctionWordForm, KeptGroup, PlainWord, TextWord, Section, Comdat, Aligned, Attached, IsKeptGroup, function_word, groups, some_local, param, param_type}
use Rattle.read_forms.specs.Read.{Shrinks, then_read, done, head, goes, maybe_at, list_at, all_for, as_table, is_word, is_local, is_mark, at_mark}
use Rattle.read_forms.specs.Forms.{type_at, space_goes, attribute_goes, attributes_at, attribute_words}
use Rattle.read_forms.proofs.Readers.{Reads, Free, Begins, Tests, one_reads, done_reads, then_reads, then_reads_where, pick_reads, one_begins, then_begins, reads_before}
use Rattle.read_forms.proofs.Many.{Stops, shrinks_by, many_reads_where, many_then_reads, dropped_begins, begins_stops}
use Rattle.read_forms.proofs.Choices.{maybe_reads}
use Rattle.read_forms.proofs.TokenTests.{some_is, word_kind, mark_kind, contains_in, in_front, in_back, table_only, table_found, not_spelled, no_word, no_word_spelled}
use Rattle.read_forms.proofs.Lists.{mark_reads, NotMarks, list_reads_where}
use Rattle.read_forms.proofs.Laws.{word_reads, word_begins, local_reads, length_reads, one_of_reads, made_reads, type_reads, type_no_attribute, attributes_reads, attribute_begins, type_in_no_mark}
use Rattle.read_ends.specs.Ends.{is_meta, is_group, is_text}
use Rattle.read_ends.proofs.EndLaws.{text_reads, attachment_reads, is_meta_seen}
use Rattle.read_items.specs.Functions.{dollar_by, as_dollar, comdat_name_at, text_value_at, kept_group_by, as_kept_group, plain_word_at, text_word_at, section_at, comdat_at, aligned_word_at, attached_word_at, function_word_at_form, long_words, function_words, meta_form, function_word_ahead, function_word_goes, function_word_at, groups_at, some_local_at, local_goes, param_at, param_type_at, param_goes}

-- ---- single tokens

dollar_found : (t : Lexeme) (a b : Bool) (u : Unit {0}) → is_word t.kind ≡ a → bytes_eq (take 1 t.bytes) (codes "$") ≡ b → dollar_by a b ≡ Some u → IsDollar t
dollar_found t true true u e f h = (word_kind t.kind e, f)
dollar_found t true false u e f h = absurd (let n : ◌≡◌ {A = Option (Unit {0})} None (Some u) = h in cc)
dollar_found t false b u e f h = absurd (let n : ◌≡◌ {A = Option (Unit {0})} None (Some u) = h in cc)

dollar_tests : Tests as_dollar (λ t u. IsDollar t)
dollar_tests = record {
  found = λ t u h. dollar_found t (is_word t.kind) (bytes_eq (take 1 t.bytes) (codes "$")) u refl refl h;
  only = λ t u h. ap (λ (k : TokenKind). dollar_by (is_word k) (bytes_eq (take 1 t.bytes) (codes "$"))) h.0 ∙ ap (dollar_by true) h.1;
  some = record { kind = Word; bytes = codes "$x"; line = 0 };
  value = tt;
  holds = (refl, refl);
}

group_kind : (k : TokenKind) → is_group k ≡ true → k ≡ Group
group_kind Group e = refl
group_kind _ e = absurd (let f : ◌≡◌ {A = Bool} false true = e in cc)

kept_found : (t : Lexeme) (b : Bool) (gs : List (List ℕ)) → is_group t.kind ≡ b → kept_group_by b t.bytes ≡ Some gs → IsKeptGroup t gs
kept_found t true gs e h = (group_kind t.kind e, sym (some_is (t.bytes ∷ []) gs h))
kept_found t false gs e h = absurd (let n : ◌≡◌ {A = Option (List (List ℕ))} None (Some gs) = h in cc)

kept_group_tests : Tests as_kept_group IsKeptGroup
kept_group_tests = record {
  found = λ t gs h. kept_found t (is_group t.kind) gs refl h;
  only = λ t gs h. ap (λ (k : TokenKind). kept_group_by (is_group k) t.bytes) h.0 ∙ ap Some (sym h.1);
  some = record { kind = Group; bytes = []; line = 0 };
  value = [] ∷ [];
  holds = (refl, refl);
}

-- ---- the words behind the parameters

comdat_name_reads : Reads comdat_name_at comdat_name Free
unfolding comdat_name_at
comdat_name_reads =
    then_reads (mark_reads 40) (λ open_.
    then_reads (one_reads _ _ dollar_tests) (λ name.
    then_reads (mark_reads 41) (λ close.
    done_reads tt)))

text_value_reads : Reads text_value_at text_value Free
unfolding text_value_at
text_value_reads = then_reads (mark_reads 61) (λ equals. text_reads)

-- neither = nor ( follows
abbrev pub Closed : List Lexeme → Type 0
Closed ts = Stops (at_mark 61) ts × Stops (at_mark 40) ts

mark_first : {X : Type 0} (m : ℕ) (T : ℕ → List Lexeme → X → Type 0) → (is_mark m (Mark m) ≡ true) → Begins (spell.◌>>=◌ (mark m) T) (λ t. at_mark m (Some t) ≡ true)
mark_first m T e = then_begins _ _ _ (one_begins _ _ (λ t line h. ap (is_mark m) h.0 ∙ e))

function_word_reads : (form : FunctionWordForm) → Reads (function_word_at_form form) (function_word form) Closed
unfolding plain_word_at text_word_at section_at comdat_at aligned_word_at attached_word_at
function_word_reads KeptGroup = reads_before Closed (λ ts h. tt) (one_reads _ _ kept_group_tests)
function_word_reads PlainWord = reads_before Closed (λ ts h. tt) (then_reads (one_of_reads plain_function_words refl (codes "nounwind") (0, omega arith, refl)) (λ w. done_reads []))
function_word_reads TextWord = reads_before Closed (λ ts h. h.0) (then_reads text_reads (λ text. made_reads (λ more. []) (maybe_reads tt (at_mark 61) text_value_at text_value text_value_reads (mark_first 61 _ refl))))
function_word_reads Section = reads_before Closed (λ ts h. tt) (then_reads (word_reads (codes "section")) (λ w. then_reads text_reads (λ text. done_reads [])))
function_word_reads Comdat = reads_before Closed (λ ts h. h.1) (then_reads (word_reads (codes "comdat")) (λ w. made_reads (λ name. []) (maybe_reads tt (at_mark 40) comdat_name_at comdat_name comdat_name_reads (mark_first 40 _ refl))))
function_word_reads Aligned = reads_before Closed (λ ts h. tt) (then_reads (word_reads (codes "align")) (λ w. then_reads length_reads (λ n. done_reads [])))
function_word_reads Attached = reads_before Closed (λ ts h. tt) (then_reads attachment_reads (λ a. done_reads []))

-- a word behind parameters is told by its table
by_word : (t : Lexeme) (form : FunctionWordForm) → IsWordIn function_words t form → function_word_ahead (Some t) ≡ Some form
by_word t form h =
    ap (λ (k : TokenKind). cond (is_group k) (Some KeptGroup) (cond (is_text k) (Some TextWord) (cond (cond (is_meta k) (not (bytes_eq t.bytes (codes "!{"))) false) (Some Attached) (as_table function_words t)))) h.0
    ∙ table_only function_words refl t form h

long_in : (x : List ℕ) (form : FunctionWordForm) → InTable long_words x form → InTable function_words x form
long_in x form h = in_back (all_for PlainWord plain_function_words) long_words x form h

function_word_begins : (form : FunctionWordForm) → Begins (function_word form) (λ t. function_word_ahead (Some t) ≡ Some form)
function_word_begins KeptGroup = one_begins _ _ (λ t gs h. ap (λ (k : TokenKind). cond (is_group k) (Some KeptGroup) (cond (is_text k) (Some TextWord) (meta_form t))) h.0)
function_word_begins PlainWord = then_begins _ _ _ (one_begins _ _ (λ t u h. by_word t PlainWord (h.0, in_front (all_for PlainWord plain_function_words) long_words t.bytes PlainWord (contains_in PlainWord plain_function_words h.1.0 t.bytes h.1.1 h.1.2))))
function_word_begins TextWord = then_begins _ _ _ (one_begins _ _ (λ t u h. ap (λ (k : TokenKind). cond (is_group k) (Some KeptGroup) (cond (is_text k) (Some TextWord) (meta_form t))) h))
function_word_begins Section = then_begins _ _ _ (word_begins _ _ (λ t line h. by_word t Section (h.0, long_in t.bytes Section (inl (h.1, refl)))))
function_word_begins Comdat = then_begins _ _ _ (word_begins _ _ (λ t line h. by_word t Comdat (h.0, long_in t.bytes Comdat (inr (inl (h.1, refl))))))
function_word_begins Aligned = then_begins _ _ _ (word_begins _ _ (λ t line h. by_word t Aligned (h.0, long_in t.bytes Aligned (inr (inr (inl (h.1, refl)))))))
function_word_begins Attached = then_begins _ _ _ (then_begins _ _ _ (one_begins _ _ (λ t u h. ap (λ (k : TokenKind). cond (is_group k) (Some KeptGroup) (cond (is_text k) (Some TextWord) (meta_form t))) h.0 ∙ ap (λ (b : Bool). cond b (Some Attached) (as_table function_words t)) (is_meta_seen t h))))

function_word_first : Begins (any function_word) (λ t. function_word_goes (Some t) ≡ true)
function_word_first front x s = let u = function_word_begins s.0 front x s.1 in (u.0, u.1, ap goes u.2, u.3)

word_at_reads : Reads function_word_at (any function_word) Closed
word_at_reads = pick_reads function_word_ahead function_word_at_form function_word Closed function_word_reads function_word_begins KeptGroup

pub function_word_shrinks : Shrinks function_word_at
function_word_shrinks = shrinks_by _ _ Closed _ word_at_reads function_word_first

-- what is no word, group, string or name of metadata begins no word behind the parameters
pub kind_no_word : (t : Lexeme) (k : TokenKind) → t.kind ≡ k → is_word k ≡ false → is_group k ≡ false → is_text k ≡ false → is_meta k ≡ false → function_word_goes (Some t) ≡ false
kind_no_word t k e w g x m =
    ap (λ (j : TokenKind). goes (cond (is_group j) (Some KeptGroup) (cond (is_text j) (Some TextWord) (cond (cond (is_meta j) (not (bytes_eq t.bytes (codes "!{"))) false) (Some Attached) (as_table function_words t))))) e
    ∙ ap (λ (b : Bool). goes (cond b (Some KeptGroup) (cond (is_text k) (Some TextWord) (cond (cond (is_meta k) (not (bytes_eq t.bytes (codes "!{"))) false) (Some Attached) (as_table function_words t))))) g
    ∙ ap (λ (b : Bool). goes (cond b (Some TextWord) (cond (cond (is_meta k) (not (bytes_eq t.bytes (codes "!{"))) false) (Some Attached) (as_table function_words t)))) x
    ∙ ap (λ (b : Bool). goes (cond (cond b (not (bytes_eq t.bytes (codes "!{"))) false) (Some Attached) (as_table function_words t))) m
    ∙ ap goes (no_word function_words t k e w)

-- a word that isn't in the table begins none either
pub word_no_word : (t : Lexeme) → t.kind ≡ Word → as_table function_words t ≡ None → function_word_goes (Some t) ≡ false
word_no_word t k e =
    ap (λ (j : TokenKind). goes (cond (is_group j) (Some KeptGroup) (cond (is_text j) (Some TextWord) (cond (cond (is_meta j) (not (bytes_eq t.bytes (codes "!{"))) false) (Some Attached) (as_table function_words t))))) k ∙ ap goes e

-- a mark begins no word behind the parameters
pub mark_no_word : (t : Lexeme) (m : ℕ) → t.kind ≡ Mark m → function_word_goes (Some t) ≡ false
mark_no_word t m k =
    ap (λ (j : TokenKind). goes (cond (is_group j) (Some KeptGroup) (cond (is_text j) (Some TextWord) (cond (cond (is_meta j) (not (bytes_eq t.bytes (codes "!{"))) false) (Some Attached) (as_table function_words t))))) k
    ∙ ap goes (no_word function_words t (Mark m) k refl)

-- no word behind the parameters begins with a mark
word_follows : (ts : List Lexeme) → function_word_goes (head ts) ≡ true → Closed ts
word_follows [] e = (refl, refl)
word_follows (t ∷ ts) e = (no_mark 61, no_mark 40)
  where
    by_test : (m : ℕ) (b : Bool) → is_mark m t.kind ≡ b → b ≡ false
    by_test m false h = refl
    by_test m true h = let f : true ≡ false = sym e ∙ mark_no_word t m (mark_kind m t.kind h) in absurd (cc)

    no_mark : (m : ℕ) → at_mark m (Some t) ≡ false
    no_mark m = by_test m (is_mark m t.kind) refl

abbrev pub Behind : List Lexeme → Type 0
Behind ts = Stops function_word_goes ts × Closed ts

pub groups_reads : Reads groups_at groups Behind
unfolding groups_at
groups_reads = made_reads (λ words. flat_map (λ gs. gs) words) (many_reads_where function_word_goes function_word_at (any function_word) Closed word_at_reads function_word_first refl word_follows)

-- ---- parameters

some_local_reads : Reads some_local_at some_local Free
unfolding some_local_at
some_local_reads = then_reads local_reads (λ x. done_reads (Some x))

-- nothing that a parameter would go on with follows
abbrev pub NotParam : List Lexeme → Type 0
NotParam = Stops param_goes

no_attribute : (ts : List Lexeme) → NotParam ts → Stops attribute_goes ts
no_attribute ts e = by_test (attribute_goes (head ts)) refl
  where
    by_test : (b : Bool) → attribute_goes (head ts) ≡ b → b ≡ false
    by_test false h = refl
    by_test true h = let f : true ≡ false = sym (ap (λ (b : Bool). cond b true (cond (space_goes (head ts)) true (local_goes (head ts)))) h) ∙ e in absurd (cc)

no_space : (ts : List Lexeme) → NotParam ts → Stops space_goes ts
no_space ts e = by_test (space_goes (head ts)) refl
  where
    always : (b : Bool) → cond b true true ≡ true
    always true = refl
    always false = refl

    by_test : (b : Bool) → space_goes (head ts) ≡ b → b ≡ false
    by_test false h = refl
    by_test true h = let f : true ≡ false = sym (ap (λ (b : Bool). cond (attribute_goes (head ts)) true (cond b true (local_goes (head ts)))) h ∙ always (attribute_goes (head ts))) ∙ e in absurd (cc)

no_local : (ts : List Lexeme) → NotParam ts → Stops local_goes ts
no_local ts e = by_test (local_goes (head ts)) refl
  where
    always : (a b : Bool) → cond a true (cond b true true) ≡ true
    always true b = refl
    always false true = refl
    always false false = refl

    by_test : (b : Bool) → local_goes (head ts) ≡ b → b ≡ false
    by_test false h = refl
    by_test true h = let f : true ≡ false = sym (ap (λ (b : Bool). cond (attribute_goes (head ts)) true (cond (space_goes (head ts)) true b)) h ∙ always (attribute_goes (head ts)) (space_goes (head ts))) ∙ e in absurd (cc)

-- ---- what keeps a test from holding of what follows

abbrev Keeps : {X : Type 0} → (Option Lexeme → Bool) → (List Lexeme → X → Type 0) → Type 0
Keeps {X} q S = (front rest : List Lexeme) (x : X) → S front x → Stops q rest → Stops q (front ++ rest)

keeps_done : {X : Type 0} (q : Option Lexeme → Bool) (v : X) → Keeps q (spell.done v)
keeps_done q v front rest x s h = ap (λ (l : List Lexeme). q (head (l ++ rest))) s.0 ∙ h

keeps_begins : {X : Type 0} (q : Option Lexeme → Bool) (S : List Lexeme → X → Type 0) → Begins S (λ t. q (Some t) ≡ false) → Keeps q S
keeps_begins q S b front rest x s h = begins_stops S q b front rest x s

keeps_then : {X Y : Type 0} (q : Option Lexeme → Bool) (S : List Lexeme → X → Type 0) (T : X → List Lexeme → Y → Type 0) → Keeps q S → ((x : X) → Keeps q (T x)) → Keeps q (spell.◌>>=◌ S T)
keeps_then q S T a b front rest y s h =
    ap (λ (l : List Lexeme). q (head (l ++ rest))) s.5 ∙ ap (λ (l : List Lexeme). q (head l)) (append_assoc s.1 s.2 rest)
    ∙ a s.1 (s.2 ++ rest) s.0 s.3 (b s.0 s.2 rest y s.4 h)

keeps_maybe : {X : Type 0} (q : Option Lexeme → Bool) (none : X) (S : List Lexeme → X → Type 0) → Begins S (λ t. q (Some t) ≡ false) → Keeps q (maybe none S)
keeps_maybe q none S b front rest x (inl s) h = ap (λ (l : List Lexeme). q (head (l ++ rest))) s.0 ∙ h
keeps_maybe q none S b front rest x (inr s) h = keeps_begins q S b front rest x s h

keeps_many : {X : Type 0} (q : Option Lexeme → Bool) (S : List Lexeme → X → Type 0) → Begins S (λ t. q (Some t) ≡ false) → Keeps q (many S)
keeps_many q S b front rest [] s h = ap (λ (l : List Lexeme). q (head (l ++ rest))) s ∙ h
keeps_many q S b front rest (x ∷ xs) s h =
    ap (λ (l : List Lexeme). q (head (l ++ rest))) s.4 ∙ ap (λ (l : List Lexeme). q (head l)) (append_assoc s.0 s.1 rest) ∙ begins_stops S q b s.0 (s.1 ++ rest) x s.2

keeps_dropped : {X : Type 0} (q : Option Lexeme → Bool) (S : List Lexeme → X → Type 0) → Begins S (λ t. q (Some t) ≡ false) → Keeps q (dropped S)
keeps_dropped q S b = keeps_then q (many S) (λ xs. spell.done tt) (keeps_many q S b) (λ xs. keeps_done q tt)

-- ---- a parameter

pub attribute_first : (P : Lexeme → Type 0) → ((t : Lexeme) (form : AttributeForm) → IsWordIn attribute_words t form → P t) → Begins (any attribute_form) P
attribute_first P all front x s = let u = attribute_begins s.0 front x s.1 in (u.0, u.1, all u.0 s.0 (table_found attribute_words u.0 s.0 u.2), u.3)

attribute_no_space : Begins (any attribute_form) (λ t. space_goes (Some t) ≡ false)
attribute_no_space = attribute_first _ (not_spelled attribute_words (codes "addrspace") refl)

local_first : (P : Lexeme → Type 0) → ((t : Lexeme) → t.kind ≡ Local → P t) → Begins some_local P
local_first P all = then_begins _ _ _ (one_begins IsLocal _ (λ t x h. all t h.0))

abbrev NameOf : Ty → List Lexeme → Unnumbered → Type 0
NameOf ty = spell.◌>>=◌ (maybe None some_local) (λ name. spell.done (ty, name))

name_reads : (ty : Ty) → Reads (λ ts. then_read (maybe_at None local_goes some_local_at ts) (λ name. done (ty, name))) (NameOf ty) NotParam
name_reads ty = reads_before NotParam no_local (made_reads (λ name. (ty, name)) (maybe_reads None local_goes some_local_at some_local some_local_reads (local_first _ (λ t k. ap is_local k))))

keeps_name : (q : Option Lexeme → Bool) → ((t : Lexeme) → t.kind ≡ Local → q (Some t) ≡ false) → (ty : Ty) → Keeps q (NameOf ty)
keeps_name q l ty = keeps_then q (maybe None some_local) (λ name. spell.done (ty, name)) (keeps_maybe q None some_local (local_first _ l)) (λ name. keeps_done q (ty, name))

param_reads : Reads param_at param NotParam
unfolding param_at
param_reads =
    many_then_reads attribute_goes attributes_reads (λ before.
    then_reads_where type_at type_ (Stops space_goes) _ _ NotParam type_reads (λ ty.
    then_reads_where attributes_at attributes (Stops attribute_goes) _ _ NotParam attributes_reads (λ behind. name_reads ty)
    (λ behind front rest y s w. keeps_name attribute_goes (λ t k. ap goes (no_word attribute_words t Local k refl)) ty front rest y s (no_attribute rest w)))
    (λ ty front rest y s w. keeps_then space_goes attributes (λ behind. NameOf ty) (keeps_dropped space_goes (any attribute_form) attribute_no_space) (λ behind. keeps_name space_goes (λ t k. no_word_spelled (codes "addrspace") t Local k refl) ty) front rest y s (no_space rest w)))
    (λ before. then_begins _ _ _ type_no_attribute)

param_type_reads : Reads param_type_at param_type NotParam
unfolding param_type_at
param_type_reads =
    many_then_reads attribute_goes attributes_reads (λ before.
    then_reads_where type_at type_ (Stops space_goes) _ _ NotParam type_reads (λ ty.
    reads_before NotParam no_attribute (made_reads (λ behind. (ty, None)) attributes_reads))
    (λ ty front rest y s w. keeps_then space_goes attributes (λ behind. spell.done (ty, None)) (keeps_dropped space_goes (any attribute_form) attribute_no_space) (λ behind. keeps_done space_goes (ty, None)) front rest y s (no_space rest w)))
    (λ before. then_begins _ _ _ type_no_attribute)

param_marks : NotMarks param_goes
param_marks m t k =
    ap (λ (b : Bool). cond b true (cond (space_goes (Some t)) true (local_goes (Some t)))) (ap goes (no_word attribute_words t (Mark m) k refl))
    ∙ ap (λ (b : Bool). cond b true (local_goes (Some t))) (no_word_spelled (codes "addrspace") t (Mark m) k refl)
    ∙ ap is_local k

param_no_close : {Y : Type 0} (T : Unit {0} → List Lexeme → Y → Type 0) → ((u : Unit {0}) → Begins (T u) (λ t. is_mark 41 t.kind ≡ false)) → Begins (spell.◌>>=◌ attributes T) (λ t. is_mark 41 t.kind ≡ false)
param_no_close T b = dropped_begins _ _ _ (attribute_first _ (λ t form h. ap (is_mark 41) h.0)) (b tt)

param_first : Begins param (λ t. is_mark 41 t.kind ≡ false)
param_first = param_no_close _ (λ u. then_begins _ _ _ (type_in_no_mark 41 refl refl nesting_limit))

param_type_first : Begins param_type (λ t. is_mark 41 t.kind ≡ false)
param_type_first = param_no_close _ (λ u. then_begins _ _ _ (type_in_no_mark 41 refl refl nesting_limit))

pub params_reads : Reads (list_at 41 param_at) (list_to 41 param) Free
params_reads = list_reads_where param_at param param_goes param_marks param_reads 41 refl param_first

pub param_types_reads : Reads (list_at 41 param_type_at) (list_to 41 param_type) Free
param_types_reads = list_reads_where param_type_at param_type param_goes param_marks param_type_reads 41 refl param_type_first

pub param_shrinks : Shrinks param_at
param_shrinks = shrinks_by _ _ NotParam _ param_reads param_first

pub param_type_shrinks : Shrinks param_type_at
param_type_shrinks = shrinks_by _ _ NotParam _ param_type_reads param_type_first
