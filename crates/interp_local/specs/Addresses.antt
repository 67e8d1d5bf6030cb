-- How far the indices of a getelementptr have gone into a type.
use Rattle.std.specs.Prelude.{◌≡◌, ℤ, List, ◌++◌, Option, Some, None}
use Rattle.ir_core.specs.declared.types.Ty.{Ty}
use Rattle.ir_core.specs.declared.module.TypeDef.{TypeDef}
use Rattle.ir_core.specs.Layout.{Offset}
use Rattle.ir_tables.specs.declared.offsets.Walk.{Walk}
use Rattle.ir_tables.specs.Walk.{StandsIn, offset_from}

-- these indices have gone so far into the type: what is left of a path adds the rest of the whole; none where one has gone into nothing
abbrev pub Reaches : List TypeDef → Ty → List ℤ → Option Walk → Type 0
Reaches types ty front None = (rest : List ℤ) → Offset types ty (front ++ rest) ≡ None
Reaches types ty front (Some walk) = StandsIn types walk × ((rest : List ℤ) → offset_from types walk rest ≡ Offset types ty (front ++ rest))
