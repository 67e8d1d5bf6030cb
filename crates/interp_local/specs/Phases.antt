-- Steps in the midst of an instruction that takes several.
use Rattle.std.specs.Prelude.{ℕ, zero, Option, Some, None}
use Rattle.mem_model.specs.declared.phase.Phase.{Phase}
use Rattle.mem_model.specs.declared.phase.Phase.TheVariants.{Begins, Gathered}
use Rattle.mem_model.specs.declared.phase.LoopPoint.{LoopPoint}
use Rattle.mem_model.specs.declared.phase.LoopPoint.TheVariants.{Sleeps, Asks, Considers, Works, Rests}

-- behind the instruction's first step, and not yet at the words of a fork of an SPMD kernel
abbrev pub IsInMidst : Phase → Type 0
IsInMidst Begins = ⊥
IsInMidst Gathered = ⊥
IsInMidst _ = Unit {0}

-- the step here is the thread's own, and calls no wrapper
abbrev pub Turns : LoopPoint → Type 0
Turns Sleeps = ⊥
Turns Asks = ⊥
Turns Works = ⊥
Turns Rests = ⊥
Turns (Considers zero (Some wrapper)) = ⊥
Turns _ = Unit {0}

-- the wrapper that the step here calls
abbrev pub wrapper_called : LoopPoint → Option ℕ
wrapper_called (Considers zero work) = work
wrapper_called _ = None
