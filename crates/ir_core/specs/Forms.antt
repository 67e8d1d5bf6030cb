-- Forms that stand in many places of a module's text: names, numbers, types, attributes and operands (LLVM Language Reference, "Identifiers",
-- "Type System", "Constants"). What may vary and is dropped is a form of its own.
use Rattle.std.specs.Prelude.{◌≡◌, Contains, ℕ, zero, suc, ◌-◌, ◌^◌, ◌<◌, List, [], ◌∷◌, length, take, drop, codes, ◌⊎◌, Bool, true, false}
use Rattle.std.specs.Str.{bytes_eq}
use Rattle.ir_core.specs.declared.types.Ty.{Ty}
use Rattle.ir_core.specs.declared.types.Ty.TheVariants.{Void, Int as IntTy, Ptr, Array, Struct, Named}
use Rattle.ir_core.specs.declared.instructions.Value.{Value}
use Rattle.ir_core.specs.declared.instructions.Value.TheVariants.{Int as IntValue, Null, Local as Register, Global as GlobalValue}
use Rattle.ir_core.specs.declared.instructions.Typed.{Typed}
use Rattle.ir_core.specs.Tokens.{Lexeme, Local, Global, Label, Number, Word}
use Rattle.ir_core.specs.Numbers.{is_negative, value_of, is_number_in_range, kept_at}
use Rattle.ir_core.specs.Escapes.{stem_name}
use Rattle.ir_core.specs.Spell.{◌>>=◌, Spell, done, one, any, many, IsWordIn, IsWord, word, mark, list_to}

-- ---- forms that many others have

-- nothing, or the form
abbrev pub maybe : {X : Type 0} → X → Spell X → Spell X
maybe none S ts x = done none ts x ⊎ S ts x

-- any number of a form, which are dropped
abbrev pub dropped : {X : Type 0} → Spell X → Spell (Unit {0})
dropped S = do
  xs ← many S
  done tt

-- one token that stands for nothing more
abbrev pub token : (Lexeme → Type 0) → Spell (Unit {0})
token Is = one (λ t u. Is t)

-- ---- names

-- %N
abbrev pub IsLocal : Lexeme → List ℕ → Type 0
IsLocal t x = (t.kind ≡ Local) × (stem_name (drop 1 t.bytes) ≡ x)

-- @N
abbrev pub IsGlobal : Lexeme → List ℕ → Type 0
IsGlobal t x = (t.kind ≡ Global) × (stem_name (drop 1 t.bytes) ≡ x)

-- N:
abbrev pub IsLabel : Lexeme → List ℕ → Type 0
IsLabel t x = (t.kind ≡ Label) × (stem_name (take (length t.bytes - 1) t.bytes) ≡ x)

abbrev pub begins_with_llvm : List ℕ → Bool
begins_with_llvm x = bytes_eq (take 5 x) (codes "llvm.")

-- the name with which an item begins, a global's: it is none of llvm's own
abbrev pub IsItemName : Lexeme → List ℕ → Type 0
IsItemName t x = IsGlobal t x × (begins_with_llvm x ≡ false)

-- ---- numbers without a sign, below a limit

abbrev pub IsNatural : ℕ → Lexeme → ℕ → Type 0
IsNatural limit t n = (t.kind ≡ Number) × (is_negative t.bytes ≡ false) × (value_of t.bytes ≡ n) × (n < limit)

abbrev pub IsLength : Lexeme → ℕ → Type 0
IsLength = IsNatural (2 ^ 64)

-- align A; 0 is as none
abbrev pub alignment : Spell ℕ
alignment = do
  aligned ← word (codes "align")
  one (IsNatural (2 ^ 32))

-- ---- types

abbrev pub integer_types : List (List ℕ × Ty)
integer_types = (codes "i1", IntTy 1) ∷ (codes "i8", IntTy 8) ∷ (codes "i16", IntTy 16) ∷ (codes "i32", IntTy 32) ∷ (codes "i64", IntTy 64) ∷ []

-- addrspace(0)
abbrev pub default_space : Spell (Unit {0})
default_space = do
  space ← word (codes "addrspace")
  open_ ← mark 40
  zero_ ← one (IsNatural 1)
  close ← mark 41
  done tt

pub data FlatForm : Type 0 where
  Integer : FlatForm
  Pointer : FlatForm
  NamedForm : FlatForm

-- a type without brackets
abbrev pub flat_form : FlatForm → Spell Ty
flat_form Integer = one (IsWordIn integer_types)
flat_form Pointer = do
  pointer ← word (codes "ptr")
  space ← maybe tt default_space
  done Ptr
flat_form NamedForm = do
  x ← one IsLocal
  done (Named x)

-- [n x T]
abbrev pub array_of : Spell Ty → Spell Ty
array_of T = do
  open_ ← mark 91
  n ← one IsLength
  times ← word (codes "x")
  item ← T
  close ← mark 93
  done (Array n item)

-- { T, .. }
abbrev pub struct_of : Spell Ty → Spell Ty
struct_of T = do
  open_ ← mark 123
  fields ← list_to 125 T
  done (Struct fields)

pub data TypeForm : Type 0 where
  Flat : TypeForm
  ArrayForm : TypeForm
  StructForm : TypeForm

abbrev pub type_form : Spell Ty → TypeForm → Spell Ty
type_form T Flat = any flat_form
type_form T ArrayForm = array_of T
type_form T StructForm = struct_of T

-- a type with no more brackets open at once than this
abbrev pub type_in : ℕ → Spell Ty
type_in zero = any flat_form
type_in (suc depth) = any (type_form (type_in depth))

-- 32 brackets
unfoldable pub nesting_limit : ℕ
nesting_limit = 32

abbrev pub type_ : Spell Ty
type_ = type_in nesting_limit

-- the type of a result, which may be void
abbrev pub result_type : Spell Ty
result_type ts ty = type_ ts ty ⊎ one (IsWordIn ((codes "void", Void) ∷ [])) ts ty

-- ---- attributes of parameters, results and arguments, which are dropped

abbrev pub IsOneOf : List (List ℕ) → Lexeme → Type 0
IsOneOf words t = (t.kind ≡ Word) × Contains words t.bytes

abbrev pub plain_attributes : List (List ℕ)
plain_attributes =
    codes "zeroext" ∷ codes "signext" ∷ codes "inreg" ∷ codes "noalias" ∷ codes "nocapture" ∷ codes "noundef" ∷ codes "nonnull" ∷ codes "readonly" ∷ codes "readnone"
    ∷ codes "writeonly" ∷ codes "returned" ∷ codes "nofree" ∷ codes "immarg" ∷ codes "allocptr" ∷ []

abbrev pub sized_attributes : List (List ℕ)
sized_attributes = codes "dereferenceable" ∷ codes "dereferenceable_or_null" ∷ []

pub data AttributeForm : Type 0 where
  PlainAttribute : AttributeForm
  AlignAttribute : AttributeForm
  SizedAttribute : AttributeForm

abbrev pub attribute_form : AttributeForm → Spell (Unit {0})
attribute_form PlainAttribute = token (IsOneOf plain_attributes)
attribute_form AlignAttribute = do
  aligned ← word (codes "align")
  n ← one IsLength
  done tt
attribute_form SizedAttribute = do
  name ← token (IsOneOf sized_attributes)
  open_ ← mark 40
  n ← one IsLength
  close ← mark 41
  done tt

abbrev pub attributes : Spell (Unit {0})
attributes = dropped (any attribute_form)

-- ---- operands

abbrev pub truth_words : List (List ℕ × ℕ)
truth_words = (codes "true", 1) ∷ (codes "false", 0) ∷ []

-- a number, true, false, null, %N or @N, of a type
abbrev pub IsValue : Ty → Lexeme → Value → Type 0
IsValue ty t (IntValue n) = ((t.kind ≡ Number) × (is_number_in_range t.bytes ≡ true) × (kept_at ty t.bytes ≡ n)) ⊎ IsWordIn truth_words t n
IsValue ty t Null = IsWord (codes "null") t t.line
IsValue ty t (Register x) = IsLocal t x
IsValue ty t (GlobalValue x) = IsGlobal t x

-- T x
abbrev pub typed : Spell Typed
typed = do
  ty ← type_
  value ← one (IsValue ty)
  done (record { ty = ty; value = value })

-- , and the form
abbrev pub next : {X : Type 0} → Spell X → Spell X
next S = do
  comma ← mark 44
  S

-- label %B
abbrev pub target : Spell (List ℕ)
target = do
  l ← word (codes "label")
  one IsLocal
