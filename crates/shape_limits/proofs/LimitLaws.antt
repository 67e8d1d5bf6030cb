-- What is too large, layer by layer, and the first item above a limit.
use Rattle.std.proofs.Common.{◌≡◌, ℕ, zero, suc, ◌+◌, ◌-◌, ◌<◌, ◌≤◌, List, [], ◌∷◌, ◌++◌, map, length, take, drop, get_or, Bool, true, false, ◌||◌, Option, Some, None, nat_lt, min, ◌⊎◌, inl, inr, refl, sym, ap, ◌∙◌, subst, arith, if◌then◌else◌}
use Rattle.std.specs.List.{list_any, flat_map}
use Rattle.std.proofs.lemmas.Bool.{lt-ltb, le-ltb, cases_lt}
use Rattle.std.proofs.lemmas.Grind.{flat_map-append}
use Rattle.std.proofs.lemmas.List.{take-append-drop, drop_more, length-map}
use Rattle.ir_core.specs.declared.module.Function.{Function}
use Rattle.ir_core.specs.declared.module.Block.{Block}
use Rattle.ir_core.specs.declared.types.Ty.{Ty, out-Ty, fold-Ty, roll-Ty, fold-roll-Ty, roll-out-Ty, out-roll-Ty, ind-Ty, map-Ty}
use Rattle.ir_core.specs.declared.types.Ty.TheVariants.{Array, Struct, rolls-Array, rolls-Struct}
use Rattle.ir_core.specs.declared.types.Ty.TheOpen.{Ty-F}
use Rattle.ir_core.specs.declared.module.TypeDef.{TypeDef}
use Rattle.ir_core.specs.Layout.{Size}
use Rattle.ir_core.specs.declared.refusal.Construct.TheVariants.{Limit}
use Rattle.shapes.specs.Facts.{rule}
use Rattle.shape_limits.specs.Counts.{block_line, block_lines}
use Rattle.shapes.specs.Limits.{beyond, Measured, measured_type, is_measured_large, part_is_large, whole_type, measure_layer, measure, is_large, size_limit}

module _ (types : List TypeDef) where
  abbrev IsOwn : Ty → Type 0
  IsOwn t = measured_type (measure types t) ≡ t

  all_own : (ts : List ((t : Ty) × IsOwn t)) → map measured_type (map (measure types) (map (λ e. e.0) ts)) ≡ map (λ e. e.0) ts
  all_own [] = refl
  all_own (t ∷ ts) = ap (λ u. u ∷ map measured_type (map (measure types) (map (λ e. e.0) ts))) t.1 ∙ ap (λ us. t.0 ∷ us) (all_own ts)

  at_layer : (x : Ty-F Ty) → map-Ty Measured Ty measured_type (map-Ty Ty Measured (measure types) x) ≡ x → IsOwn (roll-Ty x)
  at_layer x h = ap measured_type (fold-roll-Ty Measured (measure_layer types) x) ∙ ap roll-Ty h

  by_layer : (y : Ty-F ((t : Ty) × IsOwn t)) → IsOwn (roll-Ty (map-Ty ((t : Ty) × IsOwn t) Ty (λ e. e.0) y))
  by_layer Ty-F.Void = at_layer Ty-F.Void refl
  by_layer (Ty-F.Int width) = at_layer (Ty-F.Int width) refl
  by_layer Ty-F.Ptr = at_layer Ty-F.Ptr refl
  by_layer (Ty-F.Array n item) = at_layer (Ty-F.Array n item.0) (ap (Ty-F.Array n) item.1)
  by_layer (Ty-F.Struct fields) = at_layer (Ty-F.Struct (map (λ e. e.0) fields)) (ap Ty-F.Struct (all_own fields))
  by_layer (Ty-F.Named x) = at_layer (Ty-F.Named x) refl

  -- what is measured is the type
  pub own_type : (t : Ty) → IsOwn t
  own_type = ind-Ty IsOwn (λ x y is. subst (λ z. IsOwn (roll-Ty z)) is (by_layer y))

  by_parts : (x : Ty-F Ty) → is_large types (roll-Ty x) ≡ (if part_is_large (map-Ty Ty Measured (measure types) x) then true else nat_lt size_limit (Size types (roll-Ty x)))
  by_parts x =
      let parts = map-Ty Ty Measured (measure types) x in
      let unrolled : measure types (roll-Ty x) ≡ measure_layer types parts = fold-roll-Ty Measured (measure_layer types) x in
      let whole : whole_type parts ≡ roll-Ty x = sym (ap measured_type unrolled) ∙ own_type (roll-Ty x) in
      ap is_measured_large unrolled ∙ ap (λ t. if part_is_large parts then true else nat_lt size_limit (Size types t)) whole

  -- a type is too large where a part of it is, or where it takes too many bytes itself
  pub large_is : (t : Ty) → is_large types t ≡ (if part_is_large (map-Ty Ty Measured (measure types) (out-Ty t)) then true else nat_lt size_limit (Size types t))
  large_is t = subst (λ u. is_large types u ≡ (if part_is_large (map-Ty Ty Measured (measure types) (out-Ty t)) then true else nat_lt size_limit (Size types u))) (roll-out-Ty t) (by_parts (out-Ty t))

  by_layer_of : (t : Ty) (x : Ty-F Ty) → out-Ty t ≡ x → is_large types t ≡ (if part_is_large (map-Ty Ty Measured (measure types) x) then true else nat_lt size_limit (Size types t))
  by_layer_of t x is = large_is t ∙ ap (λ y. if part_is_large (map-Ty Ty Measured (measure types) y) then true else nat_lt size_limit (Size types t)) is

  pub array_is : (t item : Ty) (n : ℕ) → t ≡ Array n item → is_large types t ≡ (if is_large types item then true else nat_lt size_limit (Size types t))
  array_is t item n is = by_layer_of t (Ty-F.Array n item) (ap out-Ty (is ∙ sym (rolls-Array n item)) ∙ out-roll-Ty (Ty-F.Array n item))

  any_part : (fields : List Ty) → list_any is_measured_large (map (measure types) fields) ≡ list_any (is_large types) fields
  any_part [] = refl
  any_part (f ∷ fs) = ap (λ b. is_large types f || b) (any_part fs)

  pub struct_is : (t : Ty) (fields : List Ty) → t ≡ Struct fields → is_large types t ≡ (if list_any (is_large types) fields then true else nat_lt size_limit (Size types t))
  struct_is t fields is =
      by_layer_of t (Ty-F.Struct fields) (ap out-Ty (is ∙ sym (rolls-Struct fields)) ∙ out-roll-Ty (Ty-F.Struct fields))
      ∙ ap (λ b. if b then true else nat_lt size_limit (Size types t)) (any_part fields)

-- ---- counts

-- the first item above a limit, of items that are seen so
pub beyond_there : {B A : Type 0} (line : A → ℕ) (seen : B → A) (xs : List B) (n : ℕ) (x : B) → n < length xs → x ≡ get_or xs n x → beyond n (map line (map seen xs)) ≡ rule Limit false (line (seen x))
beyond_there line seen [] n x low is = let f : ⊥ = omega arith in absurd f
beyond_there line seen (y ∷ ys) zero x low is = ap (λ z. rule Limit false (line (seen z))) (sym is)
beyond_there line seen (y ∷ ys) (suc n) x low is = beyond_there line seen ys n x (omega arith) is

pub beyond_own : {A : Type 0} (line : A → ℕ) (xs : List A) (n : ℕ) (x : A) → n < length xs → x ≡ get_or xs n x → beyond n (map line xs) ≡ rule Limit false (line x)
beyond_own line [] n x low is = let f : ⊥ = omega arith in absurd f
beyond_own line (y ∷ ys) zero x low is = ap (λ z. rule Limit false (line z)) (sym is)
beyond_own line (y ∷ ys) (suc n) x low is = beyond_own line ys n x (omega arith) is

-- items that are no more than the limit count, and those behind them
pub beyond_behind : (xs ys : List ℕ) (n : ℕ) → length xs ≤ n → beyond n (xs ++ ys) ≡ beyond (n - length xs) ys
beyond_behind [] ys n low = let same : n ≡ n - 0 = omega arith in ap (λ k. beyond k ys) same
beyond_behind (x ∷ xs) ys zero low = let f : ⊥ = omega arith in absurd f
beyond_behind (x ∷ xs) ys (suc n) low = let same : n - length xs ≡ suc n - suc (length xs) = omega arith in beyond_behind xs ys n (omega arith) ∙ ap (λ k. beyond k ys) same

-- and before others
pub beyond_before : (xs ys : List ℕ) (n : ℕ) → n < length xs → beyond n (xs ++ ys) ≡ beyond n xs
beyond_before [] ys n low = let f : ⊥ = omega arith in absurd f
beyond_before (x ∷ xs) ys zero low = refl
beyond_before (x ∷ xs) ys (suc n) low = beyond_before xs ys n (omega arith)

-- the first block above a limit is one of the function at a place, before which so many are left
pub block_there : (limit : ℕ) (fs : List Function) (i left : ℕ) (d f : Function) (b : Block) → i < length fs → f ≡ get_or fs i d → left ≡ limit - length (flat_map block_lines (take i fs)) → length (flat_map block_lines (take i fs)) ≤ limit →
    left < length f.blocks → b ≡ get_or f.blocks left b → beyond limit (flat_map block_lines fs) ≡ rule Limit false b.line
block_there limit fs i left d f b below is lefts low within at =
    let before = flat_map block_lines (take i fs) in
    let behind = flat_map block_lines (drop (i + 1) fs) in
    let size : left < length (block_lines f) = subst (λ n. left < n) (sym (length-map f.blocks block_line)) within in
    let parts : flat_map block_lines fs ≡ before ++ (block_lines f ++ behind) =
    ap (flat_map block_lines) (sym (take-append-drop i fs) ∙ ap (λ gs. take i fs ++ gs) (drop_more fs i d below ∙ ap (λ g. g ∷ drop (i + 1) fs) (sym is))) ∙ flat_map-append block_lines (take i fs) (f ∷ drop (i + 1) fs) in
    ap (beyond limit) parts ∙ beyond_behind before (block_lines f ++ behind) limit low ∙ ap (λ n. beyond n (block_lines f ++ behind)) (sym lefts)
    ∙ beyond_before (block_lines f) behind left size ∙ beyond_own block_line f.blocks left b within at

-- ---- a size that is cut

-- a number below the cut is below a size exactly where it is below what is left of it
pub below_cut : (limit size cut : ℕ) → limit < cut → nat_lt limit (min size cut) ≡ nat_lt limit size
below_cut limit size cut low = by_size (cases_lt limit size)
  where
    by_size : (limit < size) ⊎ (size ≤ limit) → nat_lt limit (min size cut) ≡ nat_lt limit size
    by_size (inl above) = lt-ltb limit (min size cut) (omega arith) ∙ sym (lt-ltb limit size above)
    by_size (inr within) = le-ltb limit (min size cut) (omega arith) ∙ sym (le-ltb limit size within)
