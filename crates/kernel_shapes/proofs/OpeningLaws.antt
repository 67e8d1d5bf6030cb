-- The first block of a kernel, with its init call at a place.
use Rattle.std.proofs.Common.{◌≡◌, ℕ, suc, ◌+◌, ◌<◌, List, [], ◌∷◌, length, take, drop, get_or, slice_get, Bool, true, false, cond, Option, Some, None, option_map, arith, add-one, refl, ap, ◌∙◌, if◌then◌else◌}
use Rattle.std.specs.List.{position_from}
use Rattle.std.specs.Option.{IfSome}
use Rattle.std.proofs.lemmas.Option.{slice_get_read, slice_get-get_or, IfSome_then}
use Rattle.ir_core.specs.declared.instructions.Inst.{Inst}
use Rattle.ir_core.specs.declared.rtl.Rtl.TheVariants.{TargetInit}
use Rattle.shapes.specs.Facts.{is_call_of}
use Rattle.shapes.specs.KernelShape.{opening, behind_inst, ways_of, ways_behind}
use Rattle.kernel_shapes.specs.Seen.{opened, opened_by}

abbrev pub is_init : Inst → Bool
is_init = is_call_of TargetInit

-- the place of the init call, one instruction further
further_place : (n : ℕ) (insts : List Inst) → position_from is_init (n + 1) insts ≡ option_map (λ k. k + 1) (position_from is_init n insts)
further_place n [] = refl
further_place n (i ∷ is) =
    elim (is_init i) as (λ (b : Bool). cond b (Some (n + 1)) (position_from is_init (n + 1 + 1) is) ≡ option_map (λ k. k + 1) (cond b (Some n) (position_from is_init (n + 1) is))) [
      | true ↦ refl
      | false ↦ further_place (n + 1) is
    ]

same_behind : (i : Inst) (is : List Inst) (n : ℕ) → drop (suc n + 1) (i ∷ is) ≡ drop (n + 1) is
same_behind i is n = let one : suc n + 1 ≡ suc (n + 1) = omega arith in ap (λ k. drop k (i ∷ is)) one

further : (i : Inst) (is : List Inst) (o : Option ℕ) → opened (i ∷ is) (option_map (λ k. k + 1) o) ≡ option_map (behind_inst i) (opened is o)
further i is None = refl
further i is (Some n) =
    ap (λ k. opened (i ∷ is) (Some k)) (add-one n)
    ∙ elim (slice_get is n) as (λ (o : Option Inst). option_map (opened_by (i ∷ is) (suc n)) o ≡ option_map (behind_inst i) (option_map (opened_by is n) o)) [
      | None ↦ refl
      | Some j ↦ ap (λ (behind : List Inst). Some (record { before = i ∷ take n is; init = j; behind = behind })) (same_behind i is n)
    ]

pub opening_found : (insts : List Inst) → opened insts (position_from is_init 0 insts) ≡ opening insts
opening_found [] = refl
opening_found (i ∷ is) =
    elim (is_init i) as (λ (b : Bool). opened (i ∷ is) (cond b (Some 0) (position_from is_init 1 is)) ≡ (if b then Some (record { before = []; init = i; behind = is }) else option_map (behind_inst i) (opening is))) [
      | true ↦ refl
      | false ↦ ap (opened (i ∷ is)) (further_place 0 is) ∙ further i is (position_from is_init 0 is) ∙ ap (option_map (behind_inst i)) (opening_found is)
    ]

within_from : (n : ℕ) (insts : List Inst) → IfSome (position_from is_init n insts) (λ k. k < n + length insts)
within_from n [] = tt
within_from n (i ∷ is) =
    elim (is_init i) as (λ (b : Bool). IfSome (cond b (Some n) (position_from is_init (n + 1) is)) (λ k. k < n + length (i ∷ is))) [
      | true ↦ omega arith
      | false ↦ IfSome_then (position_from is_init (n + 1) is) (within_from (n + 1) is) (λ k h. omega (arith, h))
    ]

pub within : (insts : List Inst) → IfSome (position_from is_init 0 insts) (λ k. k < length insts)
within insts = IfSome_then (position_from is_init 0 insts) (within_from 0 insts) (λ k h. omega (arith, h))

-- the block whose init call stands at a place
pub opened_at : (insts : List Inst) (n : ℕ) (init : Inst) → n < length insts → init ≡ get_or insts n init → opened insts (Some n) ≡ Some (opened_by insts n init)
opened_at insts n init low is = ap (option_map (opened_by insts n)) (slice_get_read insts (length insts) n init refl low is)

pub ways_at : (insts : List Inst) (n : ℕ) → n < length insts → ways_of (opened insts (Some n)) ≡ ways_behind (drop (n + 1) insts)
ways_at [] n low = absurd (omega arith)
ways_at (i ∷ is) n low = ap (λ (o : Option Inst). ways_of (option_map (opened_by (i ∷ is) n) o)) (slice_get-get_or (i ∷ is) n i low)
