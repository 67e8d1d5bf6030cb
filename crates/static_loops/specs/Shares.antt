-- A thread's share of a loop as the code has it: numbers of a loop with their signs, and what is stored for a thread as words of 32 bits.
use Rattle.std.specs.Prelude.{◌<◌, ◌^◌, ◌≢◌, ℤ, pos, FitsSigned, Option, Some, None}
use Rattle.std.specs.Int.{w32}
use Rattle.mem_model.specs.Eval.{wrapped}
use Rattle.mem_model.specs.Schedules.{Loop, Share, Turns}
use Rattle.static_loops.specs.declared.turns.Loop.{Loop as LoopData}
use Rattle.static_loops.specs.declared.turns.Share.{Share as ShareData}
use Rattle.static_loops.specs.declared.turns.Bounds.{Bounds}
use Rattle.static_loops.specs.declared.turns.Turns.{Turns as TurnsData}

abbrev pub loop_seen : LoopData → Loop
loop_seen l = record { lower = l.lower; upper = l.upper; increment = l.increment }

abbrev pub share_seen : ShareData → Share
share_seen s = record { number = s.number; count = s.count }

abbrev pub bounds_seen : Option (ℤ × ℤ) → Option Bounds
bounds_seen None = None
bounds_seen (Some bounds) = Some (record { lower = wrapped 32 bounds.0; upper = wrapped 32 bounds.1 })

-- what a thread is given, in words of 32 bits
abbrev pub turns_seen : Turns → TurnsData
turns_seen t = record { last = t.last; bounds = bounds_seen t.bounds; stride = wrapped 32 t.stride }

-- numbers of 32 bits with a sign, and a step that goes on
abbrev pub IsLoop : LoopData → Type 0
IsLoop l = FitsSigned w32 l.lower × FitsSigned w32 l.upper × FitsSigned w32 l.increment × (l.increment ≢ pos 0)

-- words of 32 bits
abbrev pub AreBoundWords : Option Bounds → Type 0
AreBoundWords None = Unit {0}
AreBoundWords (Some b) = (b.lower < 2 ^ 32) × (b.upper < 2 ^ 32)

abbrev pub AreWords : TurnsData → Type 0
AreWords t = AreBoundWords t.bounds × (t.stride < 2 ^ 32)
