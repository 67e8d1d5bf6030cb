-- The parts of a well-formed type are well formed.
use Rattle.std.proofs.Common.{◌≡◌, ℕ, zero, suc, ◌≤◌, List, [], ◌∷◌, map, take, length, Option, Some, None, option_map, is_some, true, refl, sym, ap, ◌∙◌, subst, arith}
use Rattle.std.specs.Prelude.{option_and_then, slice_get}
use Rattle.std.proofs.lemmas.Option.{none-some, same_Some}
use Rattle.ir_core.specs.declared.types.Ty.{Ty, out-Ty, map-Ty, fold_out-Ty}
use Rattle.ir_core.specs.declared.types.Ty.TheOpen.{Ty-F}
use Rattle.ir_core.specs.declared.module.TypeDef.{TypeDef}
use Rattle.ir_core.specs.Layout.{Layout, Parts, Items, Fields, NoParts, layer_layout, layer_parts, body_parts, named_layout, named_parts, body_of, parts_of, layout_of, all_some, array_layout, struct_layout, or_no_layout, the_layout, WellFormed}
use Rattle.ir_tables.proofs.Deeper.{layout_by, extended, deeper}

-- a type with a layout
abbrev pub HasLayout : Option Layout → Type 0
HasLayout o = (l : Layout) × (o ≡ Some l)

pub has_layout : (o : Option Layout) (l : Layout) → o ≡ Some l → HasLayout o
has_layout o l e = (l, e)

well_formed : (types : List TypeDef) (ty : Ty) (l : Layout) → layout_of types ty ≡ Some l → WellFormed types ty
well_formed types ty l e = ap is_some e

pub layout_some : (types : List TypeDef) (ty : Ty) → WellFormed types ty → HasLayout (layout_of types ty)
layout_some types ty = by (layout_of types ty) refl
  where
    by : (o : Option Layout) → layout_of types ty ≡ o → is_some o ≡ true → HasLayout (layout_of types ty)
    by None e well = let f : ⊥ = cc in absurd f
    by (Some l) e well = (l, e)

abbrev pub AllWell : List TypeDef → List Ty → Type 0
AllWell types [] = Unit {0}
AllWell types (field ∷ fields) = WellFormed types field × AllWell types fields

abbrev pub PartsWell : List TypeDef → Parts → Type 0
PartsWell types (Items item) = WellFormed types item
PartsWell types (Fields fields) = AllWell types fields
PartsWell types NoParts = Unit {0}

module _ (types : List TypeDef) (depth : ℕ) (low : depth ≤ length types) where
  at_length : (t : Ty) (l : Layout) → layout_by (named_layout depth types) t ≡ Some l → WellFormed types t
  at_length t l e = well_formed types t l (extended (named_layout depth types) (named_layout (length types) types) (deeper types depth (length types) low) t l e)

  item_layout : (t : Ty) (h : Layout → Layout) (o : Option Layout) (l : Layout) → layout_by (named_layout depth types) t ≡ o → option_map h o ≡ Some l → WellFormed types t
  item_layout t h None l is e = absurd (none-some l e)
  item_layout t h (Some k) l is e = at_length t k is

  fields_layout : (ts : List Ty) (ls : List Layout) → all_some (map (layout_by (named_layout depth types)) ts) ≡ Some ls → AllWell types ts
  fields_layout [] ls e = tt
  fields_layout (t ∷ ts) ls e = by (layout_by (named_layout depth types) t) refl (all_some (map (layout_by (named_layout depth types)) ts)) refl e (fields_layout ts)
    where
      by : (o : Option Layout) → layout_by (named_layout depth types) t ≡ o → (os : Option (List Layout)) → all_some (map (layout_by (named_layout depth types)) ts) ≡ os → option_and_then (λ l. option_map (λ ls. l ∷ ls) os) o ≡ Some ls →
          ((ks : List Layout) → all_some (map (layout_by (named_layout depth types)) ts) ≡ Some ks → AllWell types ts) → WellFormed types t × AllWell types ts
      by None is os rest e more = absurd (none-some ls e)
      by (Some k) is None rest e more = absurd (none-some ls e)
      by (Some k) is (Some ks) rest e more = (at_length t k is, more ks rest)

  struct_fields : (ts : List Ty) (o : Option (List Layout)) (l : Layout) → all_some (map (layout_by (named_layout depth types)) ts) ≡ o → option_map struct_layout o ≡ Some l → AllWell types ts
  struct_fields ts None l is e = absurd (none-some l e)
  struct_fields ts (Some ls) l is e = fields_layout ts ls is

  at_layer : (t : Ty) (l : Layout) → layout_by (named_layout depth types) t ≡ Some l → (y : Ty-F Ty) → out-Ty t ≡ y → layer_layout (named_layout depth types) (map-Ty Ty (Option Layout) (layout_by (named_layout depth types)) y) ≡ Some l
  at_layer t l e y is = ap (λ z. layer_layout (named_layout depth types) (map-Ty Ty (Option Layout) (layout_by (named_layout depth types)) z)) (sym is) ∙ sym (fold_out-Ty (Option Layout) (layer_layout (named_layout depth types)) t) ∙ e

  layer_well : (t : Ty) (l : Layout) → layout_by (named_layout depth types) t ≡ Some l → ((x : List ℕ) → named_layout depth types x ≡ Some l → PartsWell types (named_parts depth types x)) → (y : Ty-F Ty) → out-Ty t ≡ y → PartsWell types (layer_parts (named_parts depth types) y)
  layer_well t l e named Ty-F.Void is = tt
  layer_well t l e named (Ty-F.Int width) is = tt
  layer_well t l e named Ty-F.Ptr is = tt
  layer_well t l e named (Ty-F.Array n item) is = item_layout item (array_layout n) (layout_by (named_layout depth types) item) l refl (at_layer t l e (Ty-F.Array n item) is)
  layer_well t l e named (Ty-F.Struct fields) is = struct_fields fields (all_some (map (layout_by (named_layout depth types)) fields)) l refl (at_layer t l e (Ty-F.Struct fields) is)
  layer_well t l e named (Ty-F.Named x) is = named x (at_layer t l e (Ty-F.Named x) is)

module _ (types : List TypeDef) where
  body_well : (depth : ℕ) → depth ≤ length types → (l : Layout) → ((x : List ℕ) → named_layout depth types x ≡ Some l → PartsWell types (named_parts depth types x)) → (o : Option Ty) → option_and_then (layout_by (named_layout depth types)) o ≡ Some l → PartsWell types (body_parts (named_parts depth types) o)
  body_well depth low l named None e = tt
  body_well depth low l named (Some t) e = layer_well types depth low t l e named (out-Ty t) refl

  named_well : (depth : ℕ) → depth ≤ length types → (x : List ℕ) (l : Layout) → named_layout depth types x ≡ Some l → PartsWell types (named_parts depth types x)
  named_well zero low x l e = tt
  named_well (suc depth) low x l e = body_well depth (omega arith) l (λ y. named_well depth (omega arith) y l) (body_of types x) e

  -- what an index goes into is well formed
  pub parts_well : (ty : Ty) → WellFormed types ty → PartsWell types (parts_of types ty)
  parts_well ty well =
      let has = layout_some types ty well in
      layer_well types (length types) (omega arith) ty has.0 has.1 (λ x. named_well (length types) (omega arith) x has.0) (out-Ty ty) refl

  -- ---- fields

  pub all_layouts : (fields : List Ty) → AllWell types fields → all_some (map (layout_of types) fields) ≡ Some (map (the_layout types) fields)
  all_layouts [] well = refl
  all_layouts (t ∷ ts) well =
      let has = layout_some types t well.0 in
      let the : the_layout types t ≡ has.0 = ap or_no_layout has.1 in
      ap (option_and_then (λ l. option_map (λ ls. l ∷ ls) (all_some (map (layout_of types) ts)))) has.1
      ∙ ap (option_map (λ ls. has.0 ∷ ls)) (all_layouts ts well.1)
      ∙ ap (λ l. Some (l ∷ map (the_layout types) ts)) (sym the)

  pub front_well : (n : ℕ) (fields : List Ty) → AllWell types fields → AllWell types (take n fields)
  front_well zero [] well = tt
  front_well (suc n) [] well = tt
  front_well zero (t ∷ ts) well = tt
  front_well (suc n) (t ∷ ts) well = (well.0, front_well n ts well.1)

  pub field_well : (fields : List Ty) (n : ℕ) (field : Ty) → AllWell types fields → slice_get fields n ≡ Some field → WellFormed types field
  field_well [] n field well e = absurd (none-some field e)
  field_well (t ∷ ts) zero field well e = subst (WellFormed types) (same_Some t field e) well.0
  field_well (t ∷ ts) (suc n) field well e = field_well ts n field well.1 e
