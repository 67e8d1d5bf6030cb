-- Types: what spells a type is spelled by its canonical text.
use Rattle.std.proofs.Common.{◌≡◌, ℕ, zero, suc, ◌+◌, ◌^◌, ◌/◌, ◌%◌, ◌≤◌, ◌<◌, List, [], ◌∷◌, ◌++◌, append_assoc, map, refl, sym, ap, ◌∙◌, subst, inl, inr, ◌⊎◌, arith, codes, decimal, false}
use Rattle.std.proofs.lemmas.Fmt.{decimal_digit, decimal_step, decimal_nonempty}
use Rattle.ir_core.specs.declared.types.Ty.{Ty, out-Ty, roll-Ty, fold-roll-Ty, out-roll-Ty}
use Rattle.ir_core.specs.declared.types.Ty.TheOpen.{Ty-F}
use Rattle.ir_core.specs.declared.types.Ty.TheVariants.{Void, Int as IntTy, Ptr, Array, Struct, Named, rolls-Void, rolls-Int, rolls-Ptr, rolls-Array, rolls-Struct, rolls-Named}
use Rattle.ir_core.specs.Numbers.{is_negative, value_of}
use Rattle.ir_core.specs.Tokens.{Lexeme, Number}
use Rattle.ir_core.specs.Spell.{one, any, IsWordIn, InTable}
use Rattle.ir_core.specs.Forms.{IsNatural, integer_types, default_space, FlatForm, Integer, Pointer, NamedForm, flat_form, TypeForm, Flat, ArrayForm, StructForm, array_of, type_form, type_in, nesting_limit, type_, result_type}
use Rattle.ir_core.specs.Text.{type_text, type_layer, local_text, in_spaces}
use Rattle.text_laws.specs.Spelling.{IsSpelled}
use Rattle.text_laws.proofs.Rows.{Bare, bare}
use Rattle.text_laws.proofs.Joined.{Gives}
use Rattle.text_laws.proofs.Lexed.{number_lexed}
use Rattle.text_laws.proofs.NumberTokens.{decimal_value, decimal_digits, no_minus}
use Rattle.text_laws.proofs.Good.{good_then, good_done, good_one, good_any, good_either, good_list}
use Rattle.text_laws.proofs.Back.{Says, says_of, says_done, says_then, says_last, says_after, empty_maybe, says_space, says_mark, says_word, says_any, all_say, says_braced, says_left, says_right}
use Rattle.text_laws.proofs.Names.{says_token, local_says, WordsAre, table_says}

-- ---- numbers without a sign

pub gives_decimal : (n : ℕ) → n < 2 ^ 64 → Gives (decimal n) (bare Number (decimal n) ∷ [])
gives_decimal n h = record { before = λ d rest ms e r. number_lexed d (decimal n) rest ms (decimal_nonempty n h) (decimal_digits n h) e r }

pub natural_says : (limit : ℕ) → limit ≤ 2 ^ 64 → (n : ℕ) → IsSpelled (one (IsNatural limit)) n → Says (decimal n) (one (IsNatural limit)) n
natural_says limit l n g =
    let below = (good_one g).is.3 in
    let h : n < 2 ^ 64 = omega arith in
    says_token (gives_decimal n h) (λ t e.
    let b = ap (λ (b : Bare). b.bytes) e in
    (n, (ap (λ (b : Bare). b.kind) e, subst (λ x. is_negative x ≡ false) (sym b) (no_minus (decimal n) (decimal_digits n h)), subst (λ x. value_of x ≡ n) (sym b) (decimal_value n h), below), refl))

-- ---- the texts of types

pub void_text : type_text Void ≡ codes "void"
void_text = ap type_text (sym rolls-Void) ∙ fold-roll-Ty (List ℕ) type_layer Ty-F.Void

pub ptr_text : type_text Ptr ≡ codes "ptr"
ptr_text = ap type_text (sym rolls-Ptr) ∙ fold-roll-Ty (List ℕ) type_layer Ty-F.Ptr

int_text : (width : ℕ) → type_text (IntTy width) ≡ codes "i" ++ decimal width
int_text width = ap type_text (sym (rolls-Int width)) ∙ fold-roll-Ty (List ℕ) type_layer (Ty-F.Int width)

array_text : (n : ℕ) (item : Ty) → type_text (Array n item) ≡ codes "[" ++ (decimal n ++ (codes " x " ++ (type_text item ++ codes "]")))
array_text n item = ap type_text (sym (rolls-Array n item)) ∙ fold-roll-Ty (List ℕ) type_layer (Ty-F.Array n item) ∙ simp append_assoc

struct_text : (fields : List Ty) → type_text (Struct fields) ≡ codes "{" ++ in_spaces (codes ", ") (map type_text fields) ++ codes "}"
struct_text fields = ap type_text (sym (rolls-Struct fields)) ∙ fold-roll-Ty (List ℕ) type_layer (Ty-F.Struct fields)

named_text : (x : List ℕ) → type_text (Named x) ≡ local_text x
named_text x = ap type_text (sym (rolls-Named x)) ∙ fold-roll-Ty (List ℕ) type_layer (Ty-F.Named x)

-- a number below 100 has at most two digits
two_digits : (n : ℕ) → 10 ≤ n → n < 100 → decimal n ≡ (48 + n / 10) ∷ (48 + n % 10) ∷ []
two_digits n l h = decimal_step n l (omega arith) ∙ ap (λ (d : List ℕ). d ++ (48 + n % 10) ∷ []) (decimal_digit (n / 10) (omega arith))

int_as : (n : ℕ) (w : List ℕ) → decimal n ≡ w → type_text (IntTy n) ≡ codes "i" ++ w
int_as n w e = int_text n ∙ ap (λ (d : List ℕ). codes "i" ++ d) e

integers_are : WordsAre type_text integer_types
integers_are = (
  int_as 1 (codes "1") (decimal_digit 1 (omega arith)),
  refl,
  (
    int_as 8 (codes "8") (decimal_digit 8 (omega arith)),
    refl,
    (
      int_as 16 (codes "16") (two_digits 16 (omega arith) (omega arith)),
      refl,
      (
        int_as 32 (codes "32") (two_digits 32 (omega arith) (omega arith)),
        refl,
        (int_as 64 (codes "64") (two_digits 64 (omega arith) (omega arith)), refl, tt),
      ),
    ),
  ),
)

-- ---- what spells a type

array_says : (T : List Lexeme → Ty → Type 0) → ((ty : Ty) → IsSpelled T ty → Says (type_text ty) T ty) → (ty : Ty) → IsSpelled (array_of T) ty → Says (type_text ty) (array_of T) ty
array_says T law ty g =
    let a = good_then (good_then g).rest in
    let b = good_then (good_then a.rest).rest in
    let c = good_then b.rest in
    says_of type_text (array_of T) (good_done c.rest) (array_text a.value b.value)
    (says_mark 91 refl refl (says_then a (natural_says (2 ^ 64) (omega arith) a.value a.front) (λ rest e. refl) (says_space (says_word (codes "x") refl (λ rest e. refl) (says_space
    (says_then b (law b.value b.front) (λ rest e. refl) (says_mark 93 refl refl (says_done (Array a.value b.value)))))))))

flat_says : (form : FlatForm) (ty : Ty) → IsSpelled (flat_form form) ty → Says (type_text ty) (flat_form form) ty
flat_says Integer ty g = table_says type_text integer_types integers_are ty g
flat_says Pointer ty g =
    let a = good_then (good_then g).rest in
    says_of type_text (flat_form Pointer) (good_done a.rest) ptr_text (says_word (codes "ptr") refl (λ rest e. e) (says_after a (empty_maybe tt default_space) (says_done Ptr)))
flat_says NamedForm ty g =
    let a = good_then g in
    says_of type_text (flat_form NamedForm) (good_done a.rest) (named_text a.value) (says_last Named (local_says a.value a.front))

any_flat_says : (ty : Ty) → IsSpelled (any flat_form) ty → Says (type_text ty) (any flat_form) ty
any_flat_says ty g = let f = good_any g in says_any f.0 (flat_says f.0 ty f.1)

form_says : (T : List Lexeme → Ty → Type 0) → ((ty : Ty) → IsSpelled T ty → Says (type_text ty) T ty) → (form : TypeForm) (ty : Ty) → IsSpelled (type_form T form) ty → Says (type_text ty) (type_form T form) ty
form_says T law Flat ty g = any_flat_says ty g
form_says T law ArrayForm ty g = array_says T law ty g
form_says T law StructForm ty g =
    let a = good_then (good_then g).rest in
    says_of type_text (type_form T StructForm) (good_done a.rest) (struct_text a.value) (says_braced type_text T Struct a.value (all_say type_text T law a.value (good_list 125 T a.value a.front)))

in_says : (depth : ℕ) (ty : Ty) → IsSpelled (type_in depth) ty → Says (type_text ty) (type_in depth) ty
in_says zero ty g = any_flat_says ty g
in_says (suc depth) ty g = let f = good_any g in says_any f.0 (form_says (type_in depth) (in_says depth) f.0 ty f.1)

pub type_says : (ty : Ty) → IsSpelled type_ ty → Says (type_text ty) type_ ty
type_says = in_says nesting_limit

pub result_says : (ty : Ty) → IsSpelled result_type ty → Says (type_text ty) result_type ty
result_says ty g = by (good_either type_ (one (IsWordIn ((codes "void", Void) ∷ []))) g)
  where
    by : IsSpelled type_ ty ⊎ IsSpelled (one (IsWordIn ((codes "void", Void) ∷ []))) ty → Says (type_text ty) result_type ty
    by (inl h) = says_left (one (IsWordIn ((codes "void", Void) ∷ []))) (type_says ty h)
    by (inr h) = says_right type_ (table_says type_text ((codes "void", Void) ∷ []) (void_text, refl, tt) ty h)

-- ---- the widths of integers

pub record Width (n : ℕ) : Type 0 where
  pub some : 0 < n
  pub most : n ≤ 64

abbrev IsWide : Ty-F Ty → Type 0
IsWide (Ty-F.Int width) = Width width
IsWide _ = Unit {0}

-- a width of an integer type is from 1 to 64
abbrev pub IsSized : Ty → Type 0
IsSized ty = IsWide (out-Ty ty)

sized_layer : (x : Ty-F Ty) (ty : Ty) → roll-Ty x ≡ ty → IsWide x → IsSized ty
sized_layer x ty e h = subst IsSized e (subst IsWide (sym (out-roll-Ty x)) h)

pub int_sized : (width : ℕ) → IsSized (IntTy width) → Width width
int_sized width h = subst IsWide (ap out-Ty (sym (rolls-Int width)) ∙ out-roll-Ty (Ty-F.Int width)) h

in_integers : (w : List ℕ) (ty : Ty) → InTable integer_types w ty → IsSized ty
in_integers w ty (inl h) = subst IsSized (sym h.1) (sized_layer (Ty-F.Int 1) (IntTy 1) (rolls-Int 1) (record { some = omega arith; most = omega arith }))
in_integers w ty (inr (inl h)) = subst IsSized (sym h.1) (sized_layer (Ty-F.Int 8) (IntTy 8) (rolls-Int 8) (record { some = omega arith; most = omega arith }))
in_integers w ty (inr (inr (inl h))) = subst IsSized (sym h.1) (sized_layer (Ty-F.Int 16) (IntTy 16) (rolls-Int 16) (record { some = omega arith; most = omega arith }))
in_integers w ty (inr (inr (inr (inl h)))) = subst IsSized (sym h.1) (sized_layer (Ty-F.Int 32) (IntTy 32) (rolls-Int 32) (record { some = omega arith; most = omega arith }))
in_integers w ty (inr (inr (inr (inr (inl h))))) = subst IsSized (sym h.1) (sized_layer (Ty-F.Int 64) (IntTy 64) (rolls-Int 64) (record { some = omega arith; most = omega arith }))
in_integers w ty (inr (inr (inr (inr (inr h))))) = absurd h

flat_sized : (form : FlatForm) (ty : Ty) → IsSpelled (flat_form form) ty → IsSized ty
flat_sized Integer ty g = let s = good_one g in in_integers s.token.bytes ty s.is.1
flat_sized Pointer ty g = subst IsSized (sym (good_done (good_then (good_then g).rest).rest)) (sized_layer Ty-F.Ptr Ptr rolls-Ptr tt)
flat_sized NamedForm ty g = let a = good_then g in subst IsSized (sym (good_done a.rest)) (sized_layer (Ty-F.Named a.value) (Named a.value) (rolls-Named a.value) tt)

any_flat_sized : (ty : Ty) → IsSpelled (any flat_form) ty → IsSized ty
any_flat_sized ty g = let f = good_any g in flat_sized f.0 ty f.1

form_sized : (T : List Lexeme → Ty → Type 0) (form : TypeForm) (ty : Ty) → IsSpelled (type_form T form) ty → IsSized ty
form_sized T Flat ty g = any_flat_sized ty g
form_sized T ArrayForm ty g =
    let a = good_then (good_then g).rest in
    let b = good_then (good_then a.rest).rest in
    subst IsSized (sym (good_done (good_then b.rest).rest)) (sized_layer (Ty-F.Array a.value b.value) (Array a.value b.value) (rolls-Array a.value b.value) tt)
form_sized T StructForm ty g = let a = good_then (good_then g).rest in subst IsSized (sym (good_done a.rest)) (sized_layer (Ty-F.Struct a.value) (Struct a.value) (rolls-Struct a.value) tt)

in_sized : (depth : ℕ) (ty : Ty) → IsSpelled (type_in depth) ty → IsSized ty
in_sized zero ty g = any_flat_sized ty g
in_sized (suc depth) ty g = let f = good_any g in form_sized (type_in depth) f.0 ty f.1

pub type_sized : (ty : Ty) → IsSpelled type_ ty → IsSized ty
type_sized = in_sized nesting_limit
