-- Reading the forms that stand in many places of a module's text, in the same steps as the grammar.
use Rattle.std.specs.Prelude.{ℕ, zero, suc, ◌^◌, List, [], ◌∷◌, ◌++◌, codes, Bool, if◌then◌else◌}
use Rattle.std.specs.Prelude.{Option, Some as Present, None as Absent}
use Rattle.ir_core.specs.declared.types.Ty.{Ty}
use Rattle.ir_core.specs.declared.types.Ty.TheVariants.{Void, Ptr, Array, Struct, Named}
use Rattle.ir_core.specs.declared.instructions.Typed.{Typed}
use Rattle.ir_core.specs.Tokens.{Lexeme}
use Rattle.ir_core.specs.Forms.{integer_types, FlatForm, Integer, Pointer, NamedForm, TypeForm, Flat, ArrayForm, StructForm, nesting_limit, plain_attributes, sized_attributes, AttributeForm, PlainAttribute, AlignAttribute, SizedAttribute}
use Rattle.read_forms.specs.Read.{Read, ◌>>=◌, done, one_at, pick, goes, maybe_at, dropped_at, either_at, list_at, as_local, as_mark, as_word, as_table, as_natural, as_one_of, all_for, form_in, at_word, spells_word, is_local, is_mark}
use Rattle.read_forms.specs.Operands.{as_value}

-- ---- numbers

-- below 2^64
abbrev pub as_length : Lexeme → Option ℕ
as_length = as_natural (2 ^ 64)

-- below 2^32
abbrev pub as_alignment : Lexeme → Option ℕ
as_alignment = as_natural (2 ^ 32)

unfoldable pub alignment_at : Read ℕ
alignment_at = do
  aligned ← one_at (as_word (codes "align"))
  one_at as_alignment

-- ---- types

unfoldable pub default_space_at : Read (Unit {0})
default_space_at = do
  space ← one_at (as_word (codes "addrspace"))
  open_ ← one_at (as_mark 40)
  zero_ ← one_at (as_natural 1)
  close ← one_at (as_mark 41)
  done tt

-- what a type would go on with
abbrev pub space_goes : Option Lexeme → Bool
space_goes = at_word (codes "addrspace")

unfoldable pub pointer_at : Read Ty
pointer_at = do
  pointer ← one_at (as_word (codes "ptr"))
  space ← maybe_at tt space_goes default_space_at
  done Ptr

unfoldable pub named_at : Read Ty
named_at = do
  x ← one_at as_local
  done (Named x)

abbrev pub flat_at_form : FlatForm → Read Ty
flat_at_form Integer = one_at (as_table integer_types)
flat_at_form Pointer = pointer_at
flat_at_form NamedForm = named_at

abbrev pub flat_form_of : Lexeme → FlatForm
flat_form_of t = if is_local t.kind then NamedForm else if spells_word (codes "ptr") t then Pointer else Integer

abbrev pub flat_ahead : Option Lexeme → Option FlatForm
flat_ahead Absent = Absent
flat_ahead (Present t) = Present (flat_form_of t)

abbrev pub flat_at : Read Ty
flat_at = pick flat_ahead flat_at_form

unfoldable pub array_at : Read Ty → Read Ty
array_at f = do
  open_ ← one_at (as_mark 91)
  n ← one_at as_length
  times ← one_at (as_word (codes "x"))
  item ← f
  close ← one_at (as_mark 93)
  done (Array n item)

unfoldable pub struct_at : Read Ty → Read Ty
struct_at f = do
  open_ ← one_at (as_mark 123)
  fields ← list_at 125 f
  done (Struct fields)

abbrev pub type_at_form : Read Ty → TypeForm → Read Ty
type_at_form f Flat = flat_at
type_at_form f ArrayForm = array_at f
type_at_form f StructForm = struct_at f

abbrev pub type_form_of : Lexeme → TypeForm
type_form_of t = if is_mark 91 t.kind then ArrayForm else if is_mark 123 t.kind then StructForm else Flat

abbrev pub type_ahead : Option Lexeme → Option TypeForm
type_ahead Absent = Absent
type_ahead (Present t) = Present (type_form_of t)

unfoldable pub type_in_at : ℕ → Read Ty
type_in_at zero = flat_at
type_in_at (suc depth) = pick type_ahead (type_at_form (type_in_at depth))

unfoldable pub type_at : Read Ty
type_at = type_in_at nesting_limit

abbrev pub void_types : List (List ℕ × Ty)
void_types = (codes "void", Void) ∷ []

unfoldable pub result_type_at : Read Ty
result_type_at = either_at (at_word (codes "void")) (one_at (as_table void_types)) type_at

-- ---- attributes

unfoldable pub align_attribute_at : Read (Unit {0})
align_attribute_at = do
  aligned ← one_at (as_word (codes "align"))
  n ← one_at as_length
  done tt

unfoldable pub sized_attribute_at : Read (Unit {0})
sized_attribute_at = do
  name ← one_at (as_one_of sized_attributes)
  open_ ← one_at (as_mark 40)
  n ← one_at as_length
  close ← one_at (as_mark 41)
  done tt

abbrev pub attribute_at_form : AttributeForm → Read (Unit {0})
attribute_at_form PlainAttribute = one_at (as_one_of plain_attributes)
attribute_at_form AlignAttribute = align_attribute_at
attribute_at_form SizedAttribute = sized_attribute_at

abbrev pub align_word : List (List ℕ × AttributeForm)
align_word = (codes "align", AlignAttribute) ∷ []

abbrev pub other_attribute_words : List (List ℕ × AttributeForm)
other_attribute_words = all_for SizedAttribute sized_attributes ++ align_word

abbrev pub attribute_words : List (List ℕ × AttributeForm)
attribute_words = all_for PlainAttribute plain_attributes ++ other_attribute_words

abbrev pub attribute_goes : Option Lexeme → Bool
attribute_goes t = goes (form_in attribute_words t)

unfoldable pub attribute_at : Read (Unit {0})
attribute_at = pick (form_in attribute_words) attribute_at_form

unfoldable pub attributes_at : Read (Unit {0})
attributes_at = dropped_at attribute_goes attribute_at

-- ---- operands

unfoldable pub typed_at : Read Typed
typed_at = do
  ty ← type_at
  value ← one_at (as_value ty)
  done (record { ty = ty; value = value })

unfoldable pub target_at : Read (List ℕ)
target_at = do
  l ← one_at (as_word (codes "label"))
  one_at as_local
