-- Functions that share a side, and region functions.
use Rattle.std.specs.Prelude.{◌≡◌, ◌⊎◌, ℕ, true, Some, slice_get}
use Rattle.ir_core.specs.declared.module.Module.{Module}
use Rattle.ir_core.specs.declared.module.Function.{Function}
use Rattle.ir_core.specs.Places.{Name}
use Rattle.ir_core.specs.Wrappers.{is_in, callees, is_wrapper}
use Rattle.shapes.specs.CallPaths.{IsOnMainSideOf, IsOnRegionSide}
use Rattle.shapes.specs.Uses.{names_forked}

-- some kernel has both on its main side, or both stand on the region side
abbrev pub ShareSide : Module → ℕ → ℕ → Type 0
ShareSide m at other =
    ((kernel : ℕ) × IsOnMainSideOf m kernel at × IsOnMainSideOf m kernel other) ⊎ (IsOnRegionSide m at × IsOnRegionSide m other)

-- a wrapper calls the function of a name
abbrev pub IsCalledByWrapper : Module → Name → Type 0
IsCalledByWrapper m x = (at : ℕ) × (w : Function) × (slice_get m.functions at ≡ Some w) × (is_wrapper m w ≡ true) × (is_in (callees w) x ≡ true)

-- a region function is one that a fork names, or that a wrapper calls
abbrev pub IsRegionFunction : Module → Function → Type 0
IsRegionFunction m f = (is_in (names_forked m) f.name ≡ true) ⊎ IsCalledByWrapper m f.name
