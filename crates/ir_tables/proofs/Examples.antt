-- Layouts and offsets of a few types, computed.
use Rattle.std.proofs.Common.{◌≡◌, ℕ, List, [], ◌∷◌, map, Option, Some, option_map, refl, sym, ap, ◌∙◌}
use Rattle.std.specs.Int.{int_wrap}
use Rattle.ir_core.specs.declared.types.Ty.{Ty, out-Ty, fold-roll-Ty, out-roll-Ty}
use Rattle.ir_core.specs.declared.types.Ty.TheOpen.{Ty-F}
use Rattle.ir_core.specs.declared.types.Ty.TheVariants.{Int, Ptr, Array, Struct, Named, rolls-Int, rolls-Ptr, rolls-Array, rolls-Struct, rolls-Named}
use Rattle.ir_core.specs.Layout.{Layout, layer_layout, named_layout, layout_of, array_layout, struct_layout, integer_layout, scalar_layout, all_some, or_no_layout, Size}
use Rattle.ir_tables.specs.Laws.{FourNumbersAndPointer, ByteAndWord, ArrayOfStructs, NoFields, itself, ContainsItself, FirstItem, FieldOfThird, OneBack, NoSuchField}
use Rattle.ir_tables.proofs.Deeper.{layout_by}

module _ (named : List ℕ → Option Layout) where
  of_int : (width : ℕ) → layout_by named (Int width) ≡ integer_layout width
  of_int width = ap (layout_by named) (sym (rolls-Int width)) ∙ fold-roll-Ty (Option Layout) (layer_layout named) (Ty-F.Int width)

  of_ptr : layout_by named Ptr ≡ Some (scalar_layout 8)
  of_ptr = ap (layout_by named) (sym rolls-Ptr) ∙ fold-roll-Ty (Option Layout) (layer_layout named) Ty-F.Ptr

  of_array : (n : ℕ) (item : Ty) → layout_by named (Array n item) ≡ option_map (array_layout n) (layout_by named item)
  of_array n item = ap (layout_by named) (sym (rolls-Array n item)) ∙ fold-roll-Ty (Option Layout) (layer_layout named) (Ty-F.Array n item)

  of_struct : (fields : List Ty) → layout_by named (Struct fields) ≡ option_map struct_layout (all_some (map (layout_by named) fields))
  of_struct fields = ap (layout_by named) (sym (rolls-Struct fields)) ∙ fold-roll-Ty (Option Layout) (layer_layout named) (Ty-F.Struct fields)

  of_named : (x : List ℕ) → layout_by named (Named x) ≡ named x
  of_named x = ap (layout_by named) (sym (rolls-Named x)) ∙ fold-roll-Ty (Option Layout) (layer_layout named) (Ty-F.Named x)

out_int : (width : ℕ) → out-Ty (Int width) ≡ Ty-F.Int width
out_int width = ap out-Ty (sym (rolls-Int width)) ∙ out-roll-Ty (Ty-F.Int width)

out_array : (n : ℕ) (item : Ty) → out-Ty (Array n item) ≡ Ty-F.Array n item
out_array n item = ap out-Ty (sym (rolls-Array n item)) ∙ out-roll-Ty (Ty-F.Array n item)

out_struct : (fields : List Ty) → out-Ty (Struct fields) ≡ Ty-F.Struct fields
out_struct fields = ap out-Ty (sym (rolls-Struct fields)) ∙ out-roll-Ty (Ty-F.Struct fields)

pub four_numbers_and_pointer : FourNumbersAndPointer
four_numbers_and_pointer = simp (of_struct (named_layout 0 []), of_int (named_layout 0 []), of_ptr (named_layout 0 []))

pub byte_and_word : ByteAndWord
byte_and_word = simp (of_struct (named_layout 0 []), of_int (named_layout 0 []))

pub array_of_structs : ArrayOfStructs
array_of_structs = simp (of_array (named_layout 0 []), of_struct (named_layout 0 []), of_int (named_layout 0 []))

pub no_fields : NoFields
no_fields = simp (of_struct (named_layout 0 []))

pub contains_itself : ContainsItself
contains_itself = simp (of_named (named_layout 1 itself), of_named (named_layout 0 itself), of_struct (named_layout 0 itself), of_int (named_layout 0 itself))

-- the size of a type by its layout
sized : (ty : Ty) (size align : ℕ) → layout_of [] ty ≡ Some (record { size = size; align = align }) → Size [] ty ≡ size
sized ty size align e = ap (λ o. (or_no_layout o).size) e

pub first_item : FirstItem
unfolding int_wrap
first_item =
    let whole = sized (Array 1 Ptr) 8 8 (simp (of_array (named_layout 0 []), of_ptr (named_layout 0 []))) in
    let item = sized Ptr 8 8 (of_ptr (named_layout 0 [])) in
    simp (whole, out_array, item)

pub field_of_third : FieldOfThird
unfolding int_wrap
field_of_third =
    let whole = sized (Struct (Int 8 ∷ Int 64 ∷ Int 8 ∷ [])) 24 8 (simp (of_struct (named_layout 0 []), of_int (named_layout 0 []))) in
    simp (whole, out_struct, of_int (named_layout 0 []))

pub one_back : OneBack
unfolding int_wrap
one_back = rw (sized (Int 32) 4 4 (of_int (named_layout 0 []) 32)) refl

pub no_such_field : NoSuchField
unfolding int_wrap
no_such_field = simp out_struct
