-- The refusals of a module for its shapes, asked where its names and types are as they must be.
use Rattle.std.specs.Prelude.{◌≡◌, ◌⊎◌, ℕ, List, ◌++◌, Bool, true, false, not, ◌&&◌, Option, Some, None, slice_get}
use Rattle.std.specs.List.{find, list_any}
use Rattle.ir_core.specs.declared.instructions.Inst.{Inst}
use Rattle.ir_core.specs.declared.module.Module.{Module}
use Rattle.ir_core.specs.declared.refusal.Construct.TheVariants.{NotBuilt}
use Rattle.ir_core.specs.declared.refusal.Refusal.{Refusal}
use Rattle.ir_core.specs.declared.rtl.Rtl.{Rtl}
use Rattle.ir_core.specs.declared.rtl.Rtl.TheVariants.{TargetInit, TargetDeinit}
use Rattle.ir_core.specs.EntryPoints.{entry_points}
use Rattle.ir_core.specs.NameRefusals.{is_before}
use Rattle.shapes.specs.Facts.{insts_in, is_call_of}
use Rattle.shapes.specs.KernelShape.{kernel_refusals}
use Rattle.shapes.specs.Wrappers.{wrapper_refusals}
use Rattle.shapes.specs.Clauses.{clause_refusals}
use Rattle.shapes.specs.Limits.{limit_refusals}
use Rattle.shapes.specs.CallPaths.{IsNested}

-- the refusals but those of nested regions
abbrev pub shape_refusals : Module → List Refusal
shape_refusals m = kernel_refusals m ++ wrapper_refusals m ++ clause_refusals m ++ limit_refusals m

abbrev pub IsShapeRefusal : Module → Refusal → Type 0
IsShapeRefusal m r = ((place : ℕ) × (slice_get (shape_refusals m) place ≡ Some r)) ⊎ IsNested m r

-- the least of the refusals of a kind
abbrev pub IsLeast : (Refusal → Type 0) → Refusal → Type 0
IsLeast IsOfKind r = IsOfKind r × ((s : Refusal) → IsOfKind s → is_before s r ≡ false)

-- the least refusal of a kind, or none where there is none
abbrev pub IsAnswer : (Refusal → Type 0) → Option Refusal → Type 0
IsAnswer IsOfKind (Some r) = IsLeast IsOfKind r
IsAnswer IsOfKind None = (r : Refusal) → IsOfKind r → ⊥

-- ---- what is not built yet

abbrev pub is_built : Rtl → Bool
is_built TargetInit = true
is_built TargetDeinit = true
is_built _ = false

-- a call of an entry point that can't be run yet
abbrev pub is_unbuilt : Inst → Bool
is_unbuilt i = list_any (λ r. is_call_of r i && not (is_built r)) entry_points

abbrev pub refused_unbuilt : Option Inst → Option Refusal
refused_unbuilt None = None
refused_unbuilt (Some i) = Some (record { construct = NotBuilt; line = i.line })

-- the first such call, by its place
abbrev pub unbuilt : Module → Option Refusal
unbuilt m = refused_unbuilt (find is_unbuilt (insts_in m))
