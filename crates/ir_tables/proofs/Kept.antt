-- What is kept of the layouts of named types gives what is kept of every type's.
use Rattle.std.proofs.Common.{◌≡◌, ℕ, ◌+◌, ◌/◌, List, [], ◌∷◌, map, Option, Some, None, option_map, Bool, true, false, refl, sym, ap, ◌∙◌, subst, if◌then◌else◌, eqb-true}
use Rattle.std.specs.Prelude.{option_and_then, ◌==◌}
use Rattle.std.specs.List.{fold}
use Rattle.ir_core.specs.declared.types.Ty.{Ty, roll-Ty, fold-roll-Ty, ind-Ty, map-Ty}
use Rattle.ir_core.specs.declared.types.Ty.TheOpen.{Ty-F}
use Rattle.ir_core.specs.Layout.{Layout, layer_layout, integer_layout, scalar_layout, all_some, array_layout, struct_layout, field_end, greater_align}
use Rattle.ir_tables.specs.declared.laid.Align.{Align}
use Rattle.ir_tables.specs.declared.laid.Align.TheVariants.{One, Two, Four, Eight}
use Rattle.ir_tables.specs.declared.laid.Laid.{Laid}
use Rattle.ir_tables.specs.Laid.{Keeps, AreKept, align_bytes, scalar_laid, integer_laid, array_laid, empty_laid, with_field, with_fields, padded, layer_laid, laid_of}
use Rattle.ir_tables.proofs.Numbers.{Keeps-array, Keeps-field, Keeps-padded, next_layout}
use Rattle.ir_tables.proofs.Deeper.{layout_by}

scalar_kept : (a : Align) → Keeps (scalar_laid a) (scalar_layout (align_bytes a))
scalar_kept One = record { size = refl; low = refl; align = refl }
scalar_kept Two = record { size = refl; low = refl; align = refl }
scalar_kept Four = record { size = refl; low = refl; align = refl }
scalar_kept Eight = record { size = refl; low = refl; align = refl }

array_kept : (n : ℕ) (o : Option Laid) (p : Option Layout) → AreKept o p → AreKept (option_map (array_laid n) o) (option_map (array_layout n) p)
array_kept n None None k = tt
array_kept n None (Some l) k = absurd k
array_kept n (Some a) None k = absurd k
array_kept n (Some a) (Some l) k = Keeps-array n a l k

-- ---- structs

-- the layout of a struct with more fields behind
abbrev pub ends : Layout → List Layout → Layout
ends whole fields = record { size = fold field_end whole.size fields; align = fold greater_align whole.align fields }

pulled : (l m : Layout) (ps : Option (List Layout)) → option_map (ends (next_layout l m)) ps ≡ option_map (ends l) (option_map (λ ls. m ∷ ls) ps)
pulled l m None = refl
pulled l m (Some ls) = refl

one_more : (o : Option Laid) (p : Option Layout) (os : List (Option Laid)) (ps : Option (List Layout)) → AreKept o p → ((whole : Laid) (l : Layout) → Keeps whole l → AreKept (with_fields whole os) (option_map (ends l) ps)) →
    (whole : Laid) (l : Layout) → Keeps whole l → AreKept (with_fields whole (o ∷ os)) (option_map (ends l) (option_and_then (λ m. option_map (λ ls. m ∷ ls) ps) p))
one_more None None os ps one rest whole l kept = tt
one_more None (Some m) os ps one rest whole l kept = absurd one
one_more (Some a) None os ps one rest whole l kept = absurd one
one_more (Some a) (Some m) os ps one rest whole l kept = subst (AreKept (with_fields (with_field whole a) os)) (pulled l m ps) (rest (with_field whole a) (next_layout l m) (Keeps-field whole a l m kept one))

pad_kept : (o : Option Laid) (ps : Option (List Layout)) → AreKept o (option_map (ends (record { size = 0; align = 1 })) ps) → AreKept (option_map padded o) (option_map struct_layout ps)
pad_kept None None k = tt
pad_kept None (Some l) k = absurd k
pad_kept (Some a) None k = absurd k
pad_kept (Some a) (Some ls) k = Keeps-padded a (ends (record { size = 0; align = 1 }) ls) k

-- ---- types

scalar_of : (a : Align) (width size : ℕ) → width ≡ size → align_bytes a ≡ (size + 7) / 8 → Keeps (scalar_laid a) (scalar_layout ((width + 7) / 8))
scalar_of a width size same bytes = subst (λ n. Keeps (scalar_laid a) (scalar_layout n)) (bytes ∙ ap (λ w. (w + 7) / 8) (sym same)) (scalar_kept a)

by_width : (width : ℕ) (is1 is8 is16 is32 is64 : Bool) → (is1 ≡ true → width ≡ 1) → (is8 ≡ true → width ≡ 8) → (is16 ≡ true → width ≡ 16) → (is32 ≡ true → width ≡ 32) → (is64 ≡ true → width ≡ 64) →
    AreKept
    (if is1 then Some (scalar_laid One) else if is8 then Some (scalar_laid One) else if is16 then Some (scalar_laid Two) else if is32 then Some (scalar_laid Four) else if is64 then Some (scalar_laid Eight) else None)
    (if (if is1 then true else if is8 then true else if is16 then true else if is32 then true else is64) then Some (scalar_layout ((width + 7) / 8)) else None)
by_width width true is8 is16 is32 is64 p1 p8 p16 p32 p64 = scalar_of One width 1 (p1 refl) refl
by_width width false true is16 is32 is64 p1 p8 p16 p32 p64 = scalar_of One width 8 (p8 refl) refl
by_width width false false true is32 is64 p1 p8 p16 p32 p64 = scalar_of Two width 16 (p16 refl) refl
by_width width false false false true is64 p1 p8 p16 p32 p64 = scalar_of Four width 32 (p32 refl) refl
by_width width false false false false true p1 p8 p16 p32 p64 = scalar_of Eight width 64 (p64 refl) refl
by_width width false false false false false p1 p8 p16 p32 p64 = tt

integer_kept : (width : ℕ) → AreKept (integer_laid width) (integer_layout width)
integer_kept width = by_width width (width == 1) (width == 8) (width == 16) (width == 32) (width == 64) (eqb-true width 1) (eqb-true width 8) (eqb-true width 16) (eqb-true width 32) (eqb-true width 64)

module _ (known : List ℕ → Option Laid) (named : List ℕ → Option Layout) (all : (x : List ℕ) → AreKept (known x) (named x)) where
  abbrev pub IsKept : Ty → Type 0
  IsKept t = AreKept (laid_of known t) (layout_by named t)

  fields_kept : (ts : List ((t : Ty) × IsKept t)) (whole : Laid) (l : Layout) → Keeps whole l → AreKept (with_fields whole (map (laid_of known) (map (λ e. e.0) ts))) (option_map (ends l) (all_some (map (layout_by named) (map (λ e. e.0) ts))))
  fields_kept [] = λ whole l kept. kept
  fields_kept (t ∷ ts) = one_more (laid_of known t.0) (layout_by named t.0) _ _ t.1 (fields_kept ts)

  at_layer : (x : Ty-F Ty) → AreKept (layer_laid known (map-Ty Ty (Option Laid) (laid_of known) x)) (layer_layout named (map-Ty Ty (Option Layout) (layout_by named) x)) → IsKept (roll-Ty x)
  at_layer x h =
      subst (λ o. AreKept o (layout_by named (roll-Ty x))) (sym (fold-roll-Ty (Option Laid) (layer_laid known) x))
      (subst (AreKept (layer_laid known (map-Ty Ty (Option Laid) (laid_of known) x))) (sym (fold-roll-Ty (Option Layout) (layer_layout named) x)) h)

  by_layer : (y : Ty-F ((t : Ty) × IsKept t)) → IsKept (roll-Ty (map-Ty ((t : Ty) × IsKept t) Ty (λ e. e.0) y))
  by_layer Ty-F.Void = at_layer Ty-F.Void tt
  by_layer (Ty-F.Int width) = at_layer (Ty-F.Int width) (integer_kept width)
  by_layer Ty-F.Ptr = at_layer Ty-F.Ptr (scalar_kept Eight)
  by_layer (Ty-F.Array n item) = at_layer (Ty-F.Array n item.0) (array_kept n (laid_of known item.0) (layout_by named item.0) item.1)
  by_layer (Ty-F.Struct fields) = at_layer (Ty-F.Struct (map (λ e. e.0) fields)) (pad_kept _ _ (fields_kept fields empty_laid (record { size = 0; align = 1 }) (record { size = refl; low = refl; align = refl })))
  by_layer (Ty-F.Named x) = at_layer (Ty-F.Named x) (all x)

  pub kept : (t : Ty) → IsKept t
  kept = ind-Ty IsKept (λ x y is. subst (λ z. IsKept (roll-Ty z)) is (by_layer y))

  -- the fields of a struct, not yet padded
  pub fields_are_kept : (fields : List Ty) (whole : Laid) (l : Layout) → Keeps whole l → AreKept (with_fields whole (map (laid_of known) fields)) (option_map (ends l) (all_some (map (layout_by named) fields)))
  fields_are_kept [] = λ whole l k. k
  fields_are_kept (t ∷ ts) = one_more (laid_of known t) (layout_by named t) _ _ (kept t) (fields_are_kept ts)
