-- Modules of which nothing is refused.
use Rattle.std.specs.Prelude.{◌≡◌, []}
use Rattle.ir_core.specs.declared.module.Module.{Module}
use Rattle.ir_core.specs.declared.refusal.Refusal.{Refusal}
use Rattle.ir_core.specs.Formed.{Formed}
use Rattle.ir_core.specs.NameRefusals.{name_refusals}
use Rattle.shapes.specs.Refusals.{IsShapeRefusal}

abbrev pub HasNoShapeRefusal : Module → Type 0
HasNoShapeRefusal m = (r : Refusal) → IsShapeRefusal m r → ⊥

-- some text spells it, and nothing is refused, neither of its names and types nor of its shapes
pub record HasNoRefusal (m : Module) : Type 0 where
  pub formed : Formed m
  pub names : name_refusals m ≡ []
  pub shapes : HasNoShapeRefusal m
