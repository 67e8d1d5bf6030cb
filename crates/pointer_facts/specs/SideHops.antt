-- The hops through memory: by the sides on which functions stand.
use Rattle.std.specs.Prelude.{◌≡◌, ◌↔◌, ◌<◌, ◌⊎◌, ℕ, List, [], ◌∷◌, length}
use Rattle.ir_core.specs.declared.module.Module.{Module}
use Rattle.shapes.specs.CallPaths.{IsKernelAt, IsOnMainSideOf, IsOnRegionSide}
use Rattle.register_hops.specs.declared.hops.Hop.{Hop}
use Rattle.register_hops.specs.declared.nodes.Node.{Node}
use Rattle.register_hops.specs.declared.nodes.Node.TheVariants.{Stored, Loaded, Main, Region}
use Rattle.register_hops.specs.Numbered.{Stands}

-- the node is the main side of a kernel, or the region side
abbrev pub IsSide : Module → Node → Type 0
IsSide m (Main kernel) = IsKernelAt m kernel
IsSide m Region = Unit {0}
IsSide m _ = ⊥

-- the function at a place stands on the side
abbrev pub IsOnSide : Module → Node → ℕ → Type 0
IsOnSide m (Main kernel) at = IsOnMainSideOf m kernel at
IsOnSide m Region at = IsOnRegionSide m at
IsOnSide m _ at = ⊥

-- what is stored in the function comes to the side, and what is there can be loaded in the function
abbrev pub hops_on : Node → ℕ → List Hop
hops_on side at = record { from = Stored at; to = side } ∷ record { from = side; to = Loaded at } ∷ []

-- a hop of the function at a place, which stands on the side
abbrev pub IsHopAt : Module → Node → ℕ → Hop → Type 0
IsHopAt m side at h = IsOnSide m side at × Stands (hops_on side at) h

-- a hop of one of the functions before a place that stand on the side
abbrev pub IsHopBefore : Module → Node → ℕ → Hop → Type 0
IsHopBefore m side n h = (at : ℕ) × (at < n) × IsHopAt m side at h

-- a hop of one of the functions on the side
abbrev pub IsHopOnSide : Module → Node → Hop → Type 0
IsHopOnSide m side h = IsHopBefore m side (length m.functions) h

-- a hop of the main side of one of the kernels before a place
abbrev pub IsMainHopBefore : Module → ℕ → Hop → Type 0
IsMainHopBefore m n h = (kernel : ℕ) × (kernel < n) × IsHopOnSide m (Main kernel) h

abbrev pub IsMainHop : Module → Hop → Type 0
IsMainHop m h = IsMainHopBefore m (length m.functions) h

-- a hop of the main side of a kernel, or of the region side
abbrev pub IsSideHop : Module → Hop → Type 0
IsSideHop m h = IsMainHop m h ⊎ IsHopOnSide m Region h

-- the hops that there were, and all that have the property
pub record AddsHops (Holds : Hop → Type 0) (old new : List Hop) : Type 0 where
  pub same : (h : Hop) → Stands new h ↔ (Stands old h ⊎ Holds h)
