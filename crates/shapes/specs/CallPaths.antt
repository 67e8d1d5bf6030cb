-- Call paths: which functions stand on the main side of a kernel, and which on the region side (OpenMP 5.1, "parallel construct").
use Rattle.std.specs.Prelude.{◌≡◌, ℕ, true, false, Some, slice_get}
use Rattle.std.specs.List.{flat_map}
use Rattle.reach.specs.Chains.{Leads}
use Rattle.ir_core.specs.declared.instructions.Inst.{Inst}
use Rattle.ir_core.specs.declared.module.Module.{Module}
use Rattle.ir_core.specs.declared.module.Function.{Function}
use Rattle.ir_core.specs.declared.refusal.Construct.TheVariants.{NestedParallel}
use Rattle.ir_core.specs.declared.refusal.Refusal.{Refusal}
use Rattle.ir_core.specs.declared.rtl.Rtl.TheVariants.{Parallel}
use Rattle.ir_core.specs.Places.{Name, function_place}
use Rattle.ir_core.specs.Wrappers.{callees, is_in, is_wrapper}
use Rattle.shapes.specs.Facts.{insts_of, is_call_of}
use Rattle.shapes.specs.Uses.{fork_names}
use Rattle.shapes.specs.KernelShape.{is_kernel}
use Rattle.shapes.specs.Wrappers.{is_defined}

-- the function at this place is defined and no wrapper
abbrev pub IsOnPaths : Module → ℕ → Function → Type 0
IsOnPaths m at f = (slice_get m.functions at ≡ Some f) × (is_defined f ≡ true) × (is_wrapper m f ≡ false)

-- the function at one place calls that at the other
abbrev pub Calls : Module → ℕ → ℕ → Type 0
Calls m from to = (f g : Function) × (x : Name) × IsOnPaths m from f × IsOnPaths m to g × (is_in (callees f) x ≡ true) × (function_place m x ≡ Some to)

abbrev pub IsKernelAt : Module → ℕ → Type 0
IsKernelAt m at = (f : Function) × (slice_get m.functions at ≡ Some f) × (is_kernel f ≡ true)

-- a call path leads from a kernel
abbrev pub IsOnMainSideOf : Module → ℕ → ℕ → Type 0
IsOnMainSideOf m kernel at = IsKernelAt m kernel × Leads (Calls m) kernel at

abbrev pub IsOnMainSide : Module → ℕ → Type 0
IsOnMainSide m at = (kernel : ℕ) × IsOnMainSideOf m kernel at

-- the function at one place has a fork of the region function at the other
abbrev pub Forks : Module → ℕ → ℕ → Type 0
Forks m at region = (f : Function) × (x : Name) × (slice_get m.functions at ≡ Some f) × (is_in (flat_map fork_names (insts_of f)) x ≡ true) × (function_place m x ≡ Some region)

-- a call path leads from a region function whose fork stands on a main side
abbrev pub IsOnRegionSide : Module → ℕ → Type 0
IsOnRegionSide m at = (forking region : ℕ) × IsOnMainSide m forking × Forks m forking region × Leads (Calls m) region at

-- a fork in a function on the region side
pub record IsNested (m : Module) (r : Refusal) : Type 0 where
  pub at : ℕ
  pub side : IsOnRegionSide m at
  pub function : Function
  pub there : slice_get m.functions at ≡ Some function
  pub place : ℕ
  pub fork : Inst
  pub stands : slice_get (insts_of function) place ≡ Some fork
  pub forks : is_call_of Parallel fork ≡ true
  pub refused : r ≡ record { construct = NestedParallel; line = fork.line }
