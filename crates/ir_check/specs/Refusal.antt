-- Why a module isn't taken.
use Rattle.std.specs.Prelude.{◌≡◌, ◌⊎◌, Some, None}
use Rattle.ir_core.specs.declared.module.Module.{Module}
use Rattle.ir_core.specs.declared.answers.Or.{Or}
use Rattle.ir_core.specs.declared.answers.Or.TheVariants.{Refused, Memory}
use Rattle.ir_core.specs.declared.refusal.Refusal.{Refusal}
use Rattle.ir_core.specs.NameRefusals.{name_refusals, least}
use Rattle.shapes.specs.Refusals.{IsShapeRefusal, IsLeast}

-- the least refusal of names and types; or there is none, and the least of its shapes
abbrev pub IsRefused : Module → Refusal → Type 0
IsRefused m r = (least (name_refusals m) ≡ Some r) ⊎ ((least (name_refusals m) ≡ None) × IsLeast (IsShapeRefusal m) r)

-- the module is refused, or memory ran out
abbrev pub IsCheckRefusal : Module → Or Refusal → Type 0
IsCheckRefusal m (Refused r) = IsRefused m r
IsCheckRefusal m Memory = Unit {0}
