-- Which functions a function reaches by call paths, what a kernel runs, and on which sides a function stands.
use Rattle.std.specs.Prelude.{◌≡◌, ◌⊎◌, ℕ, true, Some, slice_get}
use Rattle.std.specs.List.{list_any}
use Rattle.reach.specs.Chains.{Leads}
use Rattle.ir_core.specs.declared.module.Module.{Module}
use Rattle.ir_core.specs.declared.module.Function.{Function}
use Rattle.ir_core.specs.declared.rtl.Rtl.TheVariants.{Parallel}
use Rattle.shapes.specs.CallPaths.{Calls, Forks, IsKernelAt, IsOnMainSide, IsOnRegionSide}
use Rattle.shapes.specs.Facts.{insts_of, is_call_of}
use Rattle.call_paths.specs.declared.calls.Side.{Side}
use Rattle.call_paths.specs.declared.calls.Side.TheVariants.{Main, Region, Both, Neither}

-- a call path leads from the function at one place to that at the other; every function reaches itself
abbrev pub Reaches : Module → ℕ → ℕ → Type 0
Reaches m from to = Leads (Calls m) from to

-- the function at the place has a fork
abbrev pub HasFork : Module → ℕ → Type 0
HasFork m at = (f : Function) × (slice_get m.functions at ≡ Some f) × (list_any (is_call_of Parallel) (insts_of f) ≡ true)

-- a call path from the function comes to a fork
abbrev pub ReachesRegion : Module → ℕ → Type 0
ReachesRegion m at = (to : ℕ) × Reaches m at to × HasFork m to

-- the function at one place calls that at the other, or has a fork of it
abbrev pub CallsOrForks : Module → ℕ → ℕ → Type 0
CallsOrForks m from to = Calls m from to ⊎ Forks m from to

-- the kernel runs the function: call paths lead to it, each after the first from a region function whose fork stands in the last function
-- of the one before
abbrev pub Runs : Module → ℕ → ℕ → Type 0
Runs m kernel at = IsKernelAt m kernel × Leads (CallsOrForks m) kernel at

-- the side or sides on which the function stands
abbrev pub StandsOn : Module → ℕ → Side → Type 0
StandsOn m at Main = IsOnMainSide m at × (IsOnRegionSide m at → ⊥)
StandsOn m at Region = (IsOnMainSide m at → ⊥) × IsOnRegionSide m at
StandsOn m at Both = IsOnMainSide m at × IsOnRegionSide m at
StandsOn m at Neither = (IsOnMainSide m at → ⊥) × (IsOnRegionSide m at → ⊥)
