-- What is kept of a module's call paths: rows of marks over the places of its functions.
use Rattle.std.specs.Prelude.{◌≡◌, ◌↔◌, ℕ, List, length, Bool, true, Some, slice_get}
use Rattle.ir_core.specs.declared.module.Module.{Module}
use Rattle.shapes.specs.CallPaths.{IsOnMainSide, IsOnRegionSide}
use Rattle.call_paths.specs.declared.calls.Calls.{Calls}
use Rattle.call_paths.specs.Runs.{Reaches, ReachesRegion, Runs}

-- a row has the mark true exactly at the places that have the property
abbrev pub IsRowOf : (ℕ → Type 0) → List Bool → Type 0
IsRowOf Holds row = (at : ℕ) → (slice_get row at ≡ Some true) ↔ Holds at

-- there is a row for each place, true exactly where the relation holds from it
pub record AreRowsOf (Holds : ℕ → ℕ → Type 0) (places : ℕ) (rows : List (List Bool)) : Type 0 where
  pub size : length rows ≡ places
  pub same : (from : ℕ) (row : List Bool) → slice_get rows from ≡ Some row → IsRowOf (Holds from) row

-- the rows are those of the module
pub record AreCalls (m : Module) (c : Calls) : Type 0 where
  pub main : IsRowOf (IsOnMainSide m) c.main
  pub region : IsRowOf (IsOnRegionSide m) c.region
  pub reaching : IsRowOf (λ at. ReachesRegion m at) c.reaching
  pub reaches : AreRowsOf (Reaches m) (length m.functions) c.reaches
  pub runs : AreRowsOf (Runs m) (length m.functions) c.runs
