-- Each reading function reads what the grammar spells.
use Rattle.std.proofs.Common.{◌≡◌, ℕ, zero, suc, ◌^◌, ◌<◌, List, [], ◌∷◌, ◌++◌, codes, Some, None, Bool, true, false, cond, refl, sym, ap, ◌∙◌, subst, ◌⊎◌, inl, inr, arith}
use Rattle.std.specs.Prelude.{Contains}
use Rattle.ir_core.specs.declared.types.Ty.{Ty}
use Rattle.ir_core.specs.declared.types.Ty.TheVariants.{Void, Int as IntTy, Ptr, Array, Struct, Named}
use Rattle.ir_core.specs.Tokens.{Lexeme, TokenKind, Word, Local, Global, Number, Mark}
use Rattle.ir_core.specs.Spell.{any, many, IsWord, IsWordIn, with_line}
use Rattle.ir_core.specs.Spell as spell
use Rattle.ir_core.specs.Forms.{IsLocal, IsGlobal, IsLabel, IsNatural, alignment, integer_types, default_space, FlatForm, Integer, Pointer, NamedForm, flat_form, TypeForm, Flat, ArrayForm, StructForm, array_of, struct_of, type_form, type_in, nesting_limit, type_, result_type, plain_attributes, sized_attributes, AttributeForm, PlainAttribute, AlignAttribute, SizedAttribute, attribute_form, attributes, IsOneOf, token, IsValue, typed, next, target}
use Rattle.read_forms.specs.Read.{Read, ◌>>=◌, done, Shrinks, one_at, goes, after_comma_at, as_local, as_global, as_label, as_word, as_table, as_natural, as_one_of, all_for, form_in, at_word, with_line_of, is_mark, is_word, is_local, spells_word, look_up}
use Rattle.read_forms.specs.Operands.{literals, as_value}
use Rattle.read_forms.specs.Forms.{as_length, alignment_at, default_space_at, space_goes, pointer_at, named_at, flat_at_form, flat_ahead, flat_at, array_at, struct_at, type_at_form, type_ahead, type_in_at, type_at, void_types, result_type_at, align_attribute_at, sized_attribute_at, attribute_at_form, attribute_words, other_attribute_words, align_word, attribute_goes, attribute_at, attributes_at, typed_at, target_at}
use Rattle.read_forms.proofs.Readers.{Reads, Free, Begins, one_reads, done_reads, then_reads, then_reads_where, pick_reads, one_begins, then_begins, any_begins, reads_before, reads_as}
use Rattle.read_forms.proofs.Many.{Stops, shrinks_by, many_then_reads, dropped_reads}
use Rattle.read_forms.proofs.Choices.{maybe_reads, either, either_reads}
use Rattle.read_forms.proofs.TokenTests.{local_tests, global_tests, label_tests, word_tests, table_tests, table_only, distinct, lined_tests, natural_tests, one_of_tests, contains_in, in_front, in_back, fresh, is_spelled, not_spelled, not_in, no_word, no_word_spelled}
use Rattle.read_forms.proofs.Lists.{mark_reads, NotMarks, list_reads_where}
use Rattle.read_forms.proofs.Values.{value_tests, value_begins}

-- ---- single tokens

pub word_reads : (w : List ℕ) → Reads (one_at (as_word w)) (spell.word w) Free
word_reads w = one_reads _ _ (word_tests w)

pub local_reads : Reads (one_at as_local) (spell.one IsLocal) Free
local_reads = one_reads _ _ local_tests

pub global_reads : Reads (one_at as_global) (spell.one IsGlobal) Free
global_reads = one_reads _ _ global_tests

pub lined_local_reads : Reads (one_at (with_line_of as_local)) (spell.one (with_line IsLocal)) Free
lined_local_reads = one_reads _ _ (lined_tests _ _ local_tests)

pub lined_label_reads : Reads (one_at (with_line_of as_label)) (spell.one (with_line IsLabel)) Free
lined_label_reads = one_reads _ _ (lined_tests _ _ label_tests)

pub value_token_reads : (ty : Ty) → Reads (one_at (as_value ty)) (spell.one (IsValue ty)) Free
value_token_reads ty = one_reads _ _ (value_tests ty)

pub natural_reads : (limit : ℕ) → 0 < limit → Reads (one_at (as_natural limit)) (spell.one (IsNatural limit)) Free
natural_reads limit l = one_reads _ _ (natural_tests limit l)

pub length_reads : Reads (one_at as_length) (spell.one (IsNatural (2 ^ 64))) Free
length_reads = natural_reads (2 ^ 64) (omega arith)

-- a part that begins with this word
pub word_begins : (w : List ℕ) (P : Lexeme → Type 0) → ((t : Lexeme) (line : ℕ) → IsWord w t line → P t) → Begins (spell.word w) P
word_begins w P all = one_begins (IsWord w) P all

-- a word picks what its table has
pub word_form : {K : Type 0} (table : List (List ℕ × K)) (w : List ℕ) (t : Lexeme) (line : ℕ) → IsWord w t line → form_in table (Some t) ≡ look_up table w
word_form table w t line h = ap (λ (k : TokenKind). cond (is_word k) (look_up table t.bytes) None) h.0 ∙ ap (look_up table) h.1

-- what is read, and then made into something
pub made_reads : {X Y : Type 0} {f : Read X} {S : List Lexeme → X → Type 0} {F : List Lexeme → Type 0} (v : X → Y) → Reads f S F → Reads (f >>= λ x. done (v x)) (spell.◌>>=◌ S (λ x. spell.done (v x))) F
made_reads {f = f} {S = S} {F = F} v r = then_reads_where f S F (λ x. done (v x)) (λ x. spell.done (v x)) F r (λ x. reads_before F (λ ts h. tt) (done_reads (v x))) (λ x front rest y s k. subst (λ l. F (l ++ rest)) (sym s.0) k)

-- , and the form
pub next_reads : {X : Type 0} {f : Read X} {S : List Lexeme → X → Type 0} {F : List Lexeme → Type 0} → Reads f S F → Reads (after_comma_at f) (next S) F
unfolding after_comma_at
next_reads r = then_reads (mark_reads 44) (λ comma. r)

-- ---- numbers

pub alignment_reads : Reads alignment_at alignment Free
unfolding alignment_at
alignment_reads = then_reads (word_reads (codes "align")) (λ aligned. natural_reads (2 ^ 32) (omega arith))

-- ---- types

default_space_reads : Reads default_space_at default_space Free
unfolding default_space_at
default_space_reads =
    then_reads (word_reads (codes "addrspace")) (λ space.
    then_reads (mark_reads 40) (λ open_.
    then_reads (natural_reads 1 (omega arith)) (λ zero_.
    then_reads (mark_reads 41) (λ close.
    done_reads tt))))

pointer_reads : Reads pointer_at (flat_form Pointer) (Stops space_goes)
unfolding pointer_at
pointer_reads =
    then_reads (word_reads (codes "ptr")) (λ pointer.
    made_reads (λ space. Ptr) (maybe_reads tt space_goes default_space_at default_space default_space_reads (then_begins _ _ _ (word_begins _ _ (is_spelled (codes "addrspace"))))))

named_reads : Reads named_at (flat_form NamedForm) Free
unfolding named_at
named_reads = then_reads local_reads (λ x. done_reads (Named x))

flat_form_reads : (form : FlatForm) → Reads (flat_at_form form) (flat_form form) (Stops space_goes)
flat_form_reads Integer = reads_before (Stops space_goes) (λ ts h. tt) (one_reads _ _ (table_tests integer_types refl (codes "i1") (IntTy 1) (inl (refl, refl))))
flat_form_reads Pointer = pointer_reads
flat_form_reads NamedForm = reads_before (Stops space_goes) (λ ts h. tt) named_reads

-- of what is no local name, by whether it is ptr
flat_word : (t : Lexeme) (b : Bool) → t.kind ≡ Word → spells_word (codes "ptr") t ≡ b → flat_ahead (Some t) ≡ Some (cond b Pointer Integer)
flat_word t b k e = ap (λ (j : TokenKind). Some (cond (is_local j) NamedForm (cond (spells_word (codes "ptr") t) Pointer Integer))) k ∙ ap (λ (c : Bool). Some (cond c Pointer Integer)) e

flat_form_begins : (form : FlatForm) → Begins (flat_form form) (λ t. flat_ahead (Some t) ≡ Some form)
flat_form_begins Integer = one_begins _ _ (λ t ty h. flat_word t false h.0 (not_spelled integer_types (codes "ptr") refl t ty h))
flat_form_begins Pointer = then_begins _ _ _ (word_begins _ _ (λ t line h. flat_word t true h.0 (is_spelled (codes "ptr") t line h)))
flat_form_begins NamedForm = then_begins _ _ _ (one_begins IsLocal _ (λ t x h. ap (λ (j : TokenKind). Some (cond (is_local j) NamedForm (cond (spells_word (codes "ptr") t) Pointer Integer))) h.0))

flat_reads : Reads flat_at (any flat_form) (Stops space_goes)
flat_reads = pick_reads flat_ahead flat_at_form flat_form (Stops space_goes) flat_form_reads flat_form_begins NamedForm

-- the words that begin a type
abbrev pub type_words : List (List ℕ × Unit {0})
type_words = all_for (tt {0}) (codes "ptr" ∷ codes "i1" ∷ codes "i8" ∷ codes "i16" ∷ codes "i32" ∷ codes "i64" ∷ [])

integer_in : (x : List ℕ) (ty : Ty) → spell.InTable integer_types x ty → spell.InTable type_words x tt
integer_in x ty (inl p) = inr (inl (p.0, refl))
integer_in x ty (inr (inl p)) = inr (inr (inl (p.0, refl)))
integer_in x ty (inr (inr (inl p))) = inr (inr (inr (inl (p.0, refl))))
integer_in x ty (inr (inr (inr (inl p)))) = inr (inr (inr (inr (inl (p.0, refl)))))
integer_in x ty (inr (inr (inr (inr (inl p))))) = inr (inr (inr (inr (inr (inl (p.0, refl))))))
integer_in x ty (inr (inr (inr (inr (inr p))))) = absurd p

-- what a type without brackets begins with
module _ (P : Lexeme → Type 0) (by_name : (t : Lexeme) → t.kind ≡ Local → P t) (by_word : (t : Lexeme) → IsWordIn type_words t tt → P t) where
  flat_first : (form : FlatForm) → Begins (flat_form form) P
  flat_first Integer = one_begins _ _ (λ t ty h. by_word t (h.0, integer_in t.bytes ty h.1))
  flat_first Pointer = then_begins _ _ _ (word_begins _ _ (λ t line h. by_word t (h.0, inl (h.1, refl))))
  flat_first NamedForm = then_begins _ _ _ (one_begins IsLocal _ (λ t x h. by_name t h.0))

-- what a type begins with
module _ (P : Lexeme → Type 0) (by_name : (t : Lexeme) → t.kind ≡ Local → P t) (by_word : (t : Lexeme) → IsWordIn type_words t tt → P t) (by_square : (t : Lexeme) → t.kind ≡ Mark 91 → P t) (by_brace : (t : Lexeme) → t.kind ≡ Mark 123 → P t) where
  form_first : (T : spell.Spell Ty) (form : TypeForm) → Begins (type_form T form) P
  form_first T Flat = any_begins flat_form P (flat_first P by_name by_word)
  form_first T ArrayForm = then_begins _ _ _ (one_begins _ _ (λ t line h. by_square t h.0))
  form_first T StructForm = then_begins _ _ _ (one_begins _ _ (λ t line h. by_brace t h.0))

  pub type_in_begins : (depth : ℕ) → Begins (type_in depth) P
  type_in_begins zero = any_begins flat_form P (flat_first P by_name by_word)
  type_in_begins (suc depth) = any_begins (type_form (type_in depth)) P (form_first (type_in depth))

  pub type_begins : Begins type_ P
  type_begins = type_in_begins nesting_limit

-- a type begins with none of these words
pub type_no_word : (w : List ℕ) → fresh w type_words ≡ true → Begins type_ (λ t. spells_word w t ≡ false)
type_no_word w f = type_begins _ (λ t k. no_word_spelled w t Local k refl) (λ t h. not_spelled type_words w f t tt h) (λ t k. no_word_spelled w t (Mark 91) k refl) (λ t k. no_word_spelled w t (Mark 123) k refl)

-- and with no other mark
pub type_in_no_mark : (m : ℕ) → is_mark m (Mark 91) ≡ false → is_mark m (Mark 123) ≡ false → (depth : ℕ) → Begins (type_in depth) (λ t. is_mark m t.kind ≡ false)
type_in_no_mark m a b = type_in_begins _ (λ t k. ap (is_mark m) k) (λ t h. ap (is_mark m) h.0) (λ t k. ap (is_mark m) k ∙ a) (λ t k. ap (is_mark m) k ∙ b)

no_marks : NotMarks space_goes
no_marks m t k = no_word_spelled (codes "addrspace") t (Mark m) k refl

module _ (f : Read Ty) (T : spell.Spell Ty) (r : Reads f T (Stops space_goes)) (b : Begins T (λ t. is_mark 125 t.kind ≡ false)) where
  array_reads : Reads (array_at f) (array_of T) Free
  unfolding array_at
  array_reads =
      then_reads (mark_reads 91) (λ open_.
      then_reads length_reads (λ n.
      then_reads (word_reads (codes "x")) (λ times.
      many_then_reads space_goes r (λ item.
      then_reads (mark_reads 93) (λ close.
      done_reads (Array n item))) (λ item. then_begins _ _ _ (one_begins _ _ (λ t line h. no_marks 93 t h.0))))))

  struct_reads : Reads (struct_at f) (struct_of T) Free
  unfolding struct_at
  struct_reads =
      then_reads (mark_reads 123) (λ open_.
      then_reads (list_reads_where f T space_goes no_marks r 125 refl b) (λ fields.
      done_reads (Struct fields)))

  type_form_reads : (form : TypeForm) → Reads (type_at_form f form) (type_form T form) (Stops space_goes)
  type_form_reads Flat = flat_reads
  type_form_reads ArrayForm = reads_before (Stops space_goes) (λ ts h. tt) array_reads
  type_form_reads StructForm = reads_before (Stops space_goes) (λ ts h. tt) struct_reads

abbrev of_marks : Bool → Bool → TypeForm
of_marks a b = cond a ArrayForm (cond b StructForm Flat)

type_form_begins : (T : spell.Spell Ty) (form : TypeForm) → Begins (type_form T form) (λ t. type_ahead (Some t) ≡ Some form)
type_form_begins T Flat = any_begins flat_form _ (flat_first _ (λ t k. ap (λ (j : TokenKind). Some (of_marks (is_mark 91 j) (is_mark 123 j))) k) (λ t h. ap (λ (j : TokenKind). Some (of_marks (is_mark 91 j) (is_mark 123 j))) h.0))
type_form_begins T ArrayForm = then_begins _ _ _ (one_begins _ _ (λ t line h. ap (λ (j : TokenKind). Some (of_marks (is_mark 91 j) (is_mark 123 j))) h.0))
type_form_begins T StructForm = then_begins _ _ _ (one_begins _ _ (λ t line h. ap (λ (j : TokenKind). Some (of_marks (is_mark 91 j) (is_mark 123 j))) h.0))

pub type_in_reads : (depth : ℕ) → Reads (type_in_at depth) (type_in depth) (Stops space_goes)
unfolding type_in_at
type_in_reads zero = flat_reads
type_in_reads (suc depth) =
    pick_reads type_ahead (type_at_form (type_in_at depth)) (type_form (type_in depth)) (Stops space_goes)
    (type_form_reads (type_in_at depth) (type_in depth) (type_in_reads depth) (type_in_no_mark 125 refl refl depth))
    (type_form_begins (type_in depth)) Flat

pub type_in_shrinks : (depth : ℕ) → Shrinks (type_in_at depth)
type_in_shrinks depth = shrinks_by _ _ (Stops space_goes) _ (type_in_reads depth) (type_in_no_mark 125 refl refl depth)

pub type_reads : Reads type_at type_ (Stops space_goes)
unfolding type_at
type_reads = type_in_reads nesting_limit

void_reads : Reads (one_at (as_table void_types)) (spell.one (IsWordIn void_types)) (Stops space_goes)
void_reads = reads_before (Stops space_goes) (λ ts h. tt) (one_reads _ _ (table_tests void_types refl (codes "void") Void (inl (refl, refl))))

void_is : (t : Lexeme) (ty : Ty) → IsWordIn void_types t ty → spells_word (codes "void") t ≡ true
void_is t ty (k, inl p) = is_spelled (codes "void") t t.line (k, p.0, refl)
void_is t ty (k, inr p) = absurd p

pub result_type_reads : Reads result_type_at result_type (Stops space_goes)
unfolding result_type_at
result_type_reads =
    reads_as result_type_at (either (spell.one (IsWordIn void_types)) type_) result_type (Stops space_goes)
    (either_reads (at_word (codes "void")) (one_at (as_table void_types)) type_at (spell.one (IsWordIn void_types)) type_ (Stops space_goes) void_reads type_reads (one_begins _ _ void_is) (type_no_word (codes "void") refl))
    (λ ts ty s. swap s) (λ ts ty s. swap s)
  where
    swap : {A B : Type 0} → A ⊎ B → B ⊎ A
    swap (inl a) = inr a
    swap (inr b) = inl b

-- ---- attributes

pub one_of_reads : (ws : List (List ℕ)) → distinct (all_for (tt {0}) ws) ≡ true → (w : List ℕ) → Contains ws w → Reads (one_at (as_one_of ws)) (token (IsOneOf ws)) Free
one_of_reads ws d w c = one_reads _ _ (one_of_tests ws d w c)

attribute_form_reads : (form : AttributeForm) → Reads (attribute_at_form form) (attribute_form form) Free
unfolding align_attribute_at sized_attribute_at
attribute_form_reads PlainAttribute = one_of_reads plain_attributes refl (codes "zeroext") (0, omega arith, refl)
attribute_form_reads AlignAttribute = then_reads (word_reads (codes "align")) (λ aligned. then_reads length_reads (λ n. done_reads tt))
attribute_form_reads SizedAttribute =
    then_reads (one_of_reads sized_attributes refl (codes "dereferenceable") (0, omega arith, refl)) (λ name.
    then_reads (mark_reads 40) (λ open_.
    then_reads length_reads (λ n.
    then_reads (mark_reads 41) (λ close.
    done_reads tt))))

pub attribute_begins : (form : AttributeForm) → Begins (attribute_form form) (λ t. form_in attribute_words (Some t) ≡ Some form)
attribute_begins PlainAttribute = one_begins _ _ (λ t u h. table_only attribute_words refl t PlainAttribute (h.0, in_front (all_for PlainAttribute plain_attributes) other_attribute_words t.bytes PlainAttribute (contains_in PlainAttribute plain_attributes h.1.0 t.bytes h.1.1 h.1.2)))
attribute_begins AlignAttribute = then_begins _ _ _ (word_begins _ _ (word_form attribute_words (codes "align")))
attribute_begins SizedAttribute = then_begins _ _ _ (one_begins _ _ (λ t u h. table_only attribute_words refl t SizedAttribute (h.0, in_back (all_for PlainAttribute plain_attributes) other_attribute_words t.bytes SizedAttribute (in_front (all_for SizedAttribute sized_attributes) align_word t.bytes SizedAttribute (contains_in SizedAttribute sized_attributes h.1.0 t.bytes h.1.1 h.1.2)))))

attribute_reads : Reads attribute_at (any attribute_form) Free
unfolding attribute_at
attribute_reads = pick_reads (form_in attribute_words) attribute_at_form attribute_form Free attribute_form_reads attribute_begins AlignAttribute

attribute_first : Begins (any attribute_form) (λ t. attribute_goes (Some t) ≡ true)
attribute_first front x s = let u = attribute_begins s.0 front x s.1 in (u.0, u.1, ap goes u.2, u.3)

pub attribute_shrinks : Shrinks attribute_at
attribute_shrinks = shrinks_by attribute_at (any attribute_form) Free _ attribute_reads attribute_first

pub attributes_reads : Reads attributes_at attributes (Stops attribute_goes)
unfolding attributes_at
attributes_reads = dropped_reads attribute_goes attribute_at (any attribute_form) attribute_reads attribute_first refl

-- a type is no attribute
pub type_no_attribute : Begins type_ (λ t. attribute_goes (Some t) ≡ false)
type_no_attribute =
    type_begins _ (λ t k. ap goes (no_word attribute_words t Local k refl)) (λ t h. ap goes (not_in type_words attribute_words refl t tt h))
    (λ t k. ap goes (no_word attribute_words t (Mark 91) k refl)) (λ t k. ap goes (no_word attribute_words t (Mark 123) k refl))

-- ---- operands

-- an operand's value begins with no word but its own
pub value_no_word : (w : List ℕ) → fresh w literals ≡ true → (ty : Ty) → Begins (spell.one (IsValue ty)) (λ t. spells_word w t ≡ false)
value_no_word w f ty = value_begins ty _ (λ t k. no_word_spelled w t Number k refl) (λ t k. no_word_spelled w t Local k refl) (λ t k. no_word_spelled w t Global k refl) (λ t v h. not_spelled literals w f t v h)

pub value_no_attribute : (ty : Ty) → Begins (spell.one (IsValue ty)) (λ t. attribute_goes (Some t) ≡ false)
value_no_attribute ty =
    value_begins ty _ (λ t k. ap goes (no_word attribute_words t Number k refl)) (λ t k. ap goes (no_word attribute_words t Local k refl))
    (λ t k. ap goes (no_word attribute_words t Global k refl)) (λ t v h. ap goes (not_in literals attribute_words refl t v h))

pub typed_reads : Reads typed_at typed Free
unfolding typed_at
typed_reads =
    many_then_reads space_goes type_reads (λ ty.
    then_reads (value_token_reads ty) (λ v.
    done_reads (record { ty = ty; value = v }))) (λ ty. then_begins _ _ _ (value_no_word (codes "addrspace") refl ty))

pub typed_shrinks : Shrinks typed_at
typed_shrinks = shrinks_by typed_at typed Free _ typed_reads (then_begins _ _ _ (type_no_word (codes "label") refl))

pub target_reads : Reads target_at target Free
unfolding target_at
target_reads = then_reads (word_reads (codes "label")) (λ l. local_reads)

pub target_first : Begins target (λ t. spells_word (codes "label") t ≡ true)
target_first = then_begins _ _ _ (word_begins _ _ (is_spelled (codes "label")))
