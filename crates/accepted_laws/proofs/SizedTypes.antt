-- The types that a text can spell, but for that of a result, have parts with sizes.
use Rattle.std.proofs.Common.{◌≡◌, ℕ, zero, suc, List, [], ◌∷◌, Bool, true, refl, sym, ap, ◌∙◌, inl, inr}
use Rattle.std.specs.List.{list_all}
use Rattle.std.proofs.lemmas.List.Folds.{list_all-map}
use Rattle.ir_core.specs.declared.types.Ty.{Ty, fold-roll-Ty}
use Rattle.ir_core.specs.declared.types.Ty.TheOpen.{Ty-F}
use Rattle.ir_core.specs.declared.types.Ty.TheVariants.{Int as IntTy, Ptr, Array, Struct, Named, rolls-Int, rolls-Ptr, rolls-Array, rolls-Struct, rolls-Named}
use Rattle.ir_core.specs.Layout.{is_width}
use Rattle.ir_core.specs.Tokens.{Lexeme}
use Rattle.ir_core.specs.Spell.{any, many, InTable, Items, AtEnd, OneMore, items, after_comma, list_to}
use Rattle.ir_core.specs.Forms.{integer_types, FlatForm, Integer, Pointer, NamedForm, flat_form, TypeForm, Flat, ArrayForm, StructForm, type_form, type_in, nesting_limit, type_}
use Rattle.accepted_laws.specs.Sized.{sized_layer, are_parts_sized}
use Rattle.accepted_laws.proofs.Nothing.{both_hold}

-- ---- lists of a form

-- whatever is spelled passes the test
abbrev pub Passes : {X : Type 0} → (X → Bool) → (List Lexeme → X → Type 0) → Type 0
Passes {X} test S = (ts : List Lexeme) (x : X) → S ts x → test x ≡ true

pub all_many : {X : Type 0} (test : X → Bool) (S : List Lexeme → X → Type 0) → Passes test S → Passes (list_all test) (many S)
all_many test S law ts [] h = refl
all_many test S law ts (x ∷ xs) h = both_hold (test x) (list_all test xs) (law h.0 x h.2) (all_many test S law h.1 xs h.3)

all_items : {X : Type 0} (test : X → Bool) (S : List Lexeme → X → Type 0) → Passes test S → (close : ℕ) (form : Items) → Passes (list_all test) (items close S form)
all_items test S law close AtEnd ts xs h = ap (list_all test) h.4.1
all_items test S law close OneMore ts xs h =
    ap (list_all test) h.4.4.4.1
    ∙ both_hold (test h.0) (list_all test h.4.0) (law h.1 h.0 h.3) (all_many test (after_comma S) (λ us x i. law i.2 x i.4) h.4.1 h.4.0 h.4.3)

pub all_list : {X : Type 0} (test : X → Bool) (S : List Lexeme → X → Type 0) → Passes test S → (close : ℕ) → Passes (list_all test) (list_to close S)
all_list test S law close ts xs h = all_items test S law close h.0 ts xs h.1

-- ---- types

int_sized : (width : ℕ) → are_parts_sized (IntTy width) ≡ is_width width
int_sized width = ap are_parts_sized (sym (rolls-Int width)) ∙ fold-roll-Ty Bool sized_layer (Ty-F.Int width)

ptr_sized : are_parts_sized Ptr ≡ true
ptr_sized = ap are_parts_sized (sym rolls-Ptr) ∙ fold-roll-Ty Bool sized_layer Ty-F.Ptr

array_sized : (n : ℕ) (item : Ty) → are_parts_sized (Array n item) ≡ are_parts_sized item
array_sized n item = ap are_parts_sized (sym (rolls-Array n item)) ∙ fold-roll-Ty Bool sized_layer (Ty-F.Array n item)

struct_sized : (fields : List Ty) → are_parts_sized (Struct fields) ≡ list_all are_parts_sized fields
struct_sized fields = ap are_parts_sized (sym (rolls-Struct fields)) ∙ fold-roll-Ty Bool sized_layer (Ty-F.Struct fields) ∙ list_all-map (λ is. is) are_parts_sized fields

named_sized : (x : List ℕ) → are_parts_sized (Named x) ≡ true
named_sized x = ap are_parts_sized (sym (rolls-Named x)) ∙ fold-roll-Ty Bool sized_layer (Ty-F.Named x)

in_integers : (w : List ℕ) (ty : Ty) → InTable integer_types w ty → are_parts_sized ty ≡ true
in_integers w ty (inl h) = ap are_parts_sized h.1 ∙ int_sized 1
in_integers w ty (inr (inl h)) = ap are_parts_sized h.1 ∙ int_sized 8
in_integers w ty (inr (inr (inl h))) = ap are_parts_sized h.1 ∙ int_sized 16
in_integers w ty (inr (inr (inr (inl h)))) = ap are_parts_sized h.1 ∙ int_sized 32
in_integers w ty (inr (inr (inr (inr (inl h))))) = ap are_parts_sized h.1 ∙ int_sized 64
in_integers w ty (inr (inr (inr (inr (inr h))))) = absurd h

flat_sized : (form : FlatForm) → Passes are_parts_sized (flat_form form)
flat_sized Integer ts ty h = in_integers h.0.bytes ty h.1.1
flat_sized Pointer ts ty h = ap are_parts_sized h.4.4.1 ∙ ptr_sized
flat_sized NamedForm ts ty h = ap are_parts_sized h.4.1 ∙ named_sized h.0

any_flat_sized : Passes are_parts_sized (any flat_form)
any_flat_sized ts ty h = flat_sized h.0 ts ty h.1

form_sized : (T : List Lexeme → Ty → Type 0) → Passes are_parts_sized T → (form : TypeForm) → Passes are_parts_sized (type_form T form)
form_sized T law Flat ts ty h = any_flat_sized ts ty h
form_sized T law ArrayForm ts ty h =
    let b = h.4.4.4 in
    ap are_parts_sized b.4.4.1 ∙ array_sized h.4.0 b.0 ∙ law b.1 b.0 b.3
form_sized T law StructForm ts ty h =
    let a = h.4 in
    ap are_parts_sized a.4.1 ∙ struct_sized a.0 ∙ all_list are_parts_sized T law 125 a.1 a.0 a.3

in_sized : (depth : ℕ) → Passes are_parts_sized (type_in depth)
in_sized zero ts ty h = any_flat_sized ts ty h
in_sized (suc depth) ts ty h = form_sized (type_in depth) (in_sized depth) h.0 ts ty h.1

pub type_sized : Passes are_parts_sized type_
type_sized = in_sized nesting_limit
