-- A type of which the parts have sizes and the names have layouts has a layout.
use Rattle.std.proofs.Common.{◌≡◌, ◌+◌, ◌/◌, List, [], ◌∷◌, map, Option, Some, None, option_map, is_some, Bool, true, false, refl, sym, ap, ◌∙◌, subst, if◌then◌else◌}
use Rattle.std.specs.Prelude.{option_and_then}
use Rattle.std.specs.List.{flat_map, list_all}
use Rattle.std.proofs.lemmas.Bool.{and_parts}
use Rattle.ir_core.specs.declared.types.Ty.{Ty, fold-Ty, roll-Ty, fold-roll-Ty, ind-Ty, map-Ty}
use Rattle.ir_core.specs.declared.types.Ty.TheOpen.{Ty-F}
use Rattle.ir_core.specs.Given.{named_in_layer, names_in}
use Rattle.ir_core.specs.Layout.{Layout, layer_layout, all_some, scalar_layout, array_layout, struct_layout}
use Rattle.ir_core.specs.Places.{Name}
use Rattle.ir_core.specs.Wrappers.{is_in}
use Rattle.accepted_laws.specs.Sized.{sized_layer, are_parts_sized}
use Rattle.accepted_laws.proofs.Nothing.{not_both}
use Rattle.accepted_laws.proofs.Distinct.{in_first, in_left, in_right}

mapped : {A B : Type 0} (f : A → B) (o : Option A) → is_some o ≡ true → is_some (option_map f o) ≡ true
mapped f None e = not_both false e refl
mapped f (Some a) e = refl

joined : (o : Option Layout) (os : Option (List Layout)) → is_some o ≡ true → is_some os ≡ true → is_some (option_and_then (λ l. option_map (λ ls. l ∷ ls) os) o) ≡ true
joined None os e f = not_both false e refl
joined (Some l) None e f = not_both false f refl
joined (Some l) (Some ls) e f = refl

module _ (named : Name → Option Layout) where
  abbrev pub layout_by : Ty → Option Layout
  layout_by = fold-Ty (Option Layout) (layer_layout named)

  -- of these names each has a layout
  abbrev pub NamesLaid : List Name → Type 0
  NamesLaid xs = (x : Name) → is_in xs x ≡ true → is_some (named x) ≡ true

  abbrev IsLaid : Ty → Type 0
  IsLaid t = are_parts_sized t ≡ true → NamesLaid (names_in t) → is_some (layout_by t) ≡ true

  at_layer : (x : Ty-F Ty) → (sized_layer (map-Ty Ty Bool are_parts_sized x) ≡ true → NamesLaid (named_in_layer (map-Ty Ty (List Name) names_in x)) → is_some (layer_layout named (map-Ty Ty (Option Layout) layout_by x)) ≡ true) → IsLaid (roll-Ty x)
  at_layer x h sized names =
      ap is_some (fold-roll-Ty (Option Layout) (layer_layout named) x)
      ∙ h (sym (fold-roll-Ty Bool sized_layer x) ∙ sized) (λ z e. names z (ap (λ l. is_in l z) (fold-roll-Ty (List Name) named_in_layer x) ∙ e))

  fields_laid : (ts : List ((t : Ty) × IsLaid t)) → list_all (λ is. is) (map are_parts_sized (map (λ e. e.0) ts)) ≡ true → NamesLaid (flat_map (λ names. names) (map names_in (map (λ e. e.0) ts))) → is_some (all_some (map layout_by (map (λ e. e.0) ts))) ≡ true
  fields_laid [] sized names = refl
  fields_laid (t ∷ ts) sized names =
      let parts = and_parts (are_parts_sized t.0) (list_all (λ is. is) (map are_parts_sized (map (λ e. e.0) ts))) sized in
      joined (layout_by t.0) (all_some (map layout_by (map (λ e. e.0) ts)))
      (t.1 parts.0 (λ z e. names z (in_left (names_in t.0) (flat_map (λ names. names) (map names_in (map (λ e. e.0) ts))) z e)))
      (fields_laid ts parts.1 (λ z e. names z (in_right (names_in t.0) (flat_map (λ names. names) (map names_in (map (λ e. e.0) ts))) z e)))

  by_layer : (y : Ty-F ((t : Ty) × IsLaid t)) → IsLaid (roll-Ty (map-Ty ((t : Ty) × IsLaid t) Ty (λ e. e.0) y))
  by_layer Ty-F.Void = at_layer Ty-F.Void (λ sized names. not_both false sized refl)
  by_layer (Ty-F.Int width) = at_layer (Ty-F.Int width) (λ sized names. ap (λ b. is_some (if b then Some (scalar_layout ((width + 7) / 8)) else None)) sized)
  by_layer Ty-F.Ptr = at_layer Ty-F.Ptr (λ sized names. refl)
  by_layer (Ty-F.Array n item) = at_layer (Ty-F.Array n item.0) (λ sized names. mapped (array_layout n) (layout_by item.0) (item.1 sized names))
  by_layer (Ty-F.Struct fields) = at_layer (Ty-F.Struct (map (λ e. e.0) fields)) (λ sized names. mapped struct_layout _ (fields_laid fields sized names))
  by_layer (Ty-F.Named x) = at_layer (Ty-F.Named x) (λ sized names. names x (in_first x []))

  pub laid : (t : Ty) → IsLaid t
  laid = ind-Ty IsLaid (λ x y is. subst (λ z. IsLaid (roll-Ty z)) is (by_layer y))
