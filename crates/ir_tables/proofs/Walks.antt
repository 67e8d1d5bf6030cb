-- The way that indices go into a type, by the look-ups of names, is that of the type.
use Rattle.std.proofs.Common.{◌≡◌, ℕ, suc, ◌+◌, ◌*◌, ◌<◌, get_or, drop, add-one, drop-cons, ℤ, pos, negsuc, ◌+ℤ◌, ◌*ℤ◌, ◌%◌, ◌^◌, List, [], ◌∷◌, map, take, length, Option, Some, None, option_map, is_some, refl, sym, ap, ◌∙◌, subst, arith}
use Rattle.std.specs.Prelude.{slice_get, IsSome}
use Rattle.std.specs.Borrow.{Bor}
use Rattle.std.specs.Int.{int_wrap, w64, cast_signed, cast_unsigned}
use Rattle.std.specs.Int.RustNames.{FitsSigned}
use Rattle.std.proofs.lemmas.Int.{ints, int_wrap-add_left, int_wrap-add_right, int_wrap-add_same, int_wrap-mul_right}
use Rattle.std.proofs.lemmas.Option.{none-some}
use Rattle.ir_core.specs.declared.types.Ty.{Ty, out-Ty, map-Ty, fold_out-Ty}
use Rattle.ir_core.specs.declared.types.Ty.TheOpen.{Ty-F}
use Rattle.ir_core.specs.declared.module.TypeDef.{TypeDef}
use Rattle.ir_core.specs.Layout.{Layout, Parts, Items, Fields, NoParts, layer_layout, layer_parts, named_layout, named_parts, parts_of, layout_of, the_layout, field_start, plus, into, into_field, inner_offset, WellFormed, Size, Offset}
use Rattle.ir_tables.specs.declared.laid.Laid.{Laid}
use Rattle.ir_tables.specs.declared.named.Named.{Named}
use Rattle.ir_tables.specs.declared.offsets.Walk.{Walk}
use Rattle.ir_tables.specs.Laid.{AreKept, empty_laid, laid_of, fields_laid, stride, start}
use Rattle.ir_tables.specs.Named.{name_laid, name_parts, parts_by, Serves}
use Rattle.ir_tables.specs.Walk.{Step, step_seen, field_step, step_into, rest_offset, offset_from, StandsIn, WalksInto}
use Rattle.ir_tables.proofs.Numbers.{start_kept}
use Rattle.ir_tables.proofs.Kept.{ends, fields_are_kept}
use Rattle.ir_tables.proofs.Sizes.{laid_some, laid_none}
use Rattle.ir_tables.proofs.WellFormed.{AllWell, PartsWell, layout_some, parts_well, all_layouts, front_well, field_well}

-- ---- numbers

signed_is : (n : ℕ) → cast_signed w64 (n % 2 ^ 64) ≡ int_wrap w64 (pos n)
unfolding int_wrap
signed_is n = refl

-- a distance further, where it is kept modulo 2^64
further : (s d far : ℤ) (o : Option ℤ) → d ≡ int_wrap w64 far → option_map (λ n. int_wrap w64 n) (plus (int_wrap w64 (s +ℤ d)) o) ≡ option_map (λ n. int_wrap w64 n) (plus s (plus far o))
further s d far None is = refl
further s d far (Some n) is =
    let same : (s +ℤ far) +ℤ n ≡ s +ℤ (far +ℤ n) = omega (arith, ints) in
    ap Some (
    int_wrap-add_left w64 (s +ℤ d) n
    ∙ int_wrap-add_same w64 (s +ℤ d) (s +ℤ far) n (ap (λ x. int_wrap w64 (s +ℤ x)) is ∙ int_wrap-add_right w64 s far)
    ∙ ap (int_wrap w64) same
    )

whole : (a b : ℤ) (o : Option ℤ) → int_wrap w64 a ≡ int_wrap w64 b → option_map (λ n. int_wrap w64 n) (plus (int_wrap w64 a) o) ≡ option_map (λ n. int_wrap w64 n) (plus b o)
whole a b None is = refl
whole a b (Some n) is = ap Some (int_wrap-add_left w64 a n ∙ int_wrap-add_same w64 a b n is)

module _ (types : List TypeDef) (named : Named) (right : Serves types named) where
  -- ---- sizes and starts

  stride_by : (ty : Ty) → WellFormed types ty → (o : Option Laid) → o ≡ laid_of (name_laid named) ty → stride o ≡ int_wrap w64 (pos (Size types ty))
  stride_by ty well None e = absurd (laid_none types named right ty e well)
  stride_by ty well (Some laid) e = ap (cast_signed w64) (laid_some types named right ty laid e well).low ∙ signed_is (Size types ty)

  pub stride_is : (ty : Ty) → WellFormed types ty → stride (laid_of (name_laid named) ty) ≡ int_wrap w64 (pos (Size types ty))
  stride_is ty well = stride_by ty well (laid_of (name_laid named) ty) refl

  abbrev empty_layout : Layout
  empty_layout = record { size = 0; align = 1 }

  before_kept : (fields : List Ty) → AllWell types fields → AreKept (fields_laid (name_laid named) fields) (Some (ends empty_layout (map (the_layout types) fields)))
  before_kept fields well =
      subst (λ o. AreKept (fields_laid (name_laid named) fields) (option_map (ends empty_layout) o)) (all_layouts types fields well)
      (fields_are_kept (name_laid named) (named_layout (length types) types) (right.laid) fields empty_laid empty_layout (record { size = refl; low = refl; align = refl }))

  start_by : (before : List Ty) (field : Ty) → WellFormed types field → (o p : Option Laid) → AreKept o (Some (ends empty_layout (map (the_layout types) before))) → p ≡ laid_of (name_laid named) field → start o p ≡ int_wrap w64 (pos (field_start types before field))
  start_by before field well None p kept e = absurd kept
  start_by before field well (Some whole) None kept e = absurd (laid_none types named right field e well)
  start_by before field well (Some whole) (Some laid) kept e =
      ap (cast_signed w64) (start_kept whole laid (ends empty_layout (map (the_layout types) before)) (the_layout types field) kept (laid_some types named right field laid e well)) ∙ signed_is (field_start types before field)

  start_is : (before : List Ty) (field : Ty) → AllWell types before → WellFormed types field → start (fields_laid (name_laid named) before) (laid_of (name_laid named) field) ≡ int_wrap w64 (pos (field_start types before field))
  start_is before field front well = start_by before field well (fields_laid (name_laid named) before) (laid_of (name_laid named) field) (before_kept before front) refl

  -- ---- parts

  parts_at : (ty : Ty) (l : Layout) → layout_of types ty ≡ Some l → (y : Ty-F Ty) → out-Ty ty ≡ y → layer_parts (name_parts named) y ≡ layer_parts (named_parts (length types) types) y
  parts_at ty l e Ty-F.Void is = refl
  parts_at ty l e (Ty-F.Int width) is = refl
  parts_at ty l e Ty-F.Ptr is = refl
  parts_at ty l e (Ty-F.Array n item) is = refl
  parts_at ty l e (Ty-F.Struct fields) is = refl
  parts_at ty l e (Ty-F.Named x) is =
      let layout = ap (λ y. layer_layout (named_layout (length types) types) (map-Ty Ty (Option Layout) (layout_of types) y)) (sym is) ∙ sym (fold_out-Ty (Option Layout) (layer_layout (named_layout (length types) types)) ty) ∙ e in
      right.parts x (ap is_some layout)

  parts_are : (ty : Ty) → WellFormed types ty → parts_by named ty ≡ parts_of types ty
  parts_are ty well = let has = layout_some types ty well in parts_at ty has.0 has.1 (out-Ty ty) refl

  -- ---- an index further

  -- an index goes so far, into a part
  record Goes (i : ℤ) (parts : Parts) (step : Step) : Type 0 where
    pub well : WellFormed types step.1
    pub far : ℤ
    pub distance : step.0 ≡ int_wrap w64 far
    pub rest : (path : List ℤ) → into types (inner_offset types path) i parts ≡ plus far (inner_offset types path step.1)

  abbrev GoesOrNot : ℤ → Parts → Option Step → Type 0
  GoesOrNot i parts None = (path : List ℤ) → into types (inner_offset types path) i parts ≡ None
  GoesOrNot i parts (Some step) = Goes i parts step

  field_goes : (n : ℕ) (fields : List Ty) → AllWell types fields → (o : Option Ty) → slice_get fields n ≡ o → GoesOrNot (pos n) (Fields fields) (option_map (field_step named (take n fields)) o)
  field_goes n fields well None e = λ path. ap (into_field types (inner_offset types path) (take n fields)) e
  field_goes n fields well (Some field) e =
      let one = field_well types fields n field well e in
      record {
        well = one;
        far = pos (field_start types (take n fields) field);
        distance = start_is (take n fields) field (front_well types n fields well) one;
        rest = λ path. ap (into_field types (inner_offset types path) (take n fields)) e;
      }

  index_goes : (i : ℤ) (parts : Parts) → PartsWell types parts → GoesOrNot i parts (step_into named i parts)
  index_goes i (Items item) well = record {
    well = well;
    far = i *ℤ pos (Size types item);
    distance = ap (λ x. int_wrap w64 (i *ℤ x)) (stride_is item well) ∙ int_wrap-mul_right w64 i (pos (Size types item));
    rest = λ path. refl;
  }
  index_goes (pos n) (Fields fields) well = field_goes n fields well (slice_get fields n) refl
  index_goes (negsuc n) (Fields fields) well = λ path. refl
  index_goes i NoParts well = λ path. refl

  type_goes : (i : ℤ) (ty : Ty) → WellFormed types ty → (o : Option Step) → step_into named i (parts_by named ty) ≡ o → GoesOrNot i (parts_of types ty) o
  type_goes i ty well o e = subst (GoesOrNot i (parts_of types ty)) (ap (step_into named i) (sym (parts_are ty well)) ∙ e) (index_goes i (parts_of types ty) (parts_well types ty well))

  -- ---- walks

  pub first_into : (walk : Walk) (i sum : ℤ) → walk.sum ≡ None → sum ≡ int_wrap w64 (i *ℤ stride (laid_of (name_laid named) walk.inner.now)) → StandsIn types walk → WalksInto types walk i (Some (record { inner = walk.inner; sum = Some sum }))
  first_into walk i sum first is well =
      let ty = walk.inner.now in (
        well,
        λ path.
            ap (λ s. option_map (λ n. int_wrap w64 n) (plus s (inner_offset types path ty))) is
            ∙ whole (i *ℤ stride (laid_of (name_laid named) ty)) (i *ℤ pos (Size types ty)) (inner_offset types path ty) (ap (λ x. int_wrap w64 (i *ℤ x)) (stride_is ty well) ∙ int_wrap-mul_right w64 i (pos (Size types ty)))
            ∙ ap (λ o. rest_offset types ty o (i ∷ path)) (sym first),
      )

  pub next_into : (walk : Walk) (part : Bor Ty) (i s d sum : ℤ) → walk.sum ≡ Some s → Some (d, part.now) ≡ step_into named i (parts_by named walk.inner.now) → sum ≡ int_wrap w64 (s +ℤ d) → StandsIn types walk → WalksInto types walk i (Some (record { inner = part; sum = Some sum }))
  next_into walk part i s d sum before step is well =
      let ty = walk.inner.now in
      let goes : Goes i (parts_of types ty) (d, part.now) = type_goes i ty well (Some (d, part.now)) (sym step) in (
        goes.well,
        λ path.
            ap (λ s. option_map (λ n. int_wrap w64 n) (plus s (inner_offset types path part.now))) is
            ∙ further s d goes.far (inner_offset types path part.now) goes.distance
            ∙ ap (λ o. option_map (λ n. int_wrap w64 n) (plus s o)) (sym (goes.rest path))
            ∙ ap (λ o. rest_offset types ty o (i ∷ path)) (sym before),
      )

  pub none_into : (walk : Walk) (i s : ℤ) → walk.sum ≡ Some s → None ≡ step_into named i (parts_by named walk.inner.now) → StandsIn types walk → WalksInto types walk i None
  none_into walk i s before step well = λ path.
      let ty = walk.inner.now in
      let goes : GoesOrNot i (parts_of types ty) None = type_goes i ty well None (sym step) in
      ap (λ o. rest_offset types ty o (i ∷ path)) before ∙ ap (λ o. option_map (λ n. int_wrap w64 n) (plus s o)) (goes path)
