-- Laws of which refusal is told.
use Rattle.std.specs.Prelude.{◌≡◌, List, ◌++◌}
use Rattle.ir_core.specs.declared.refusal.Refusal.{Refusal}
use Rattle.ir_core.specs.NameRefusals.{least}

-- the refusal that is told is the same in whichever order they are listed
abbrev pub LeastInAnyOrder : Type 0
LeastInAnyOrder = (a b : List Refusal) → least (a ++ b) ≡ least (b ++ a)
