use Rattle.std.proofs.Common.{ℕ, ◌-◌, ◌≤◌, length}
use Rattle.thread_state.specs.Seen.{AreBlocks}
use Rattle.thread_state.proofs.Stacks.{Between}
use Rattle.thread_state.proofs.stack.block_place.Given as goal

-- the blocks before `low` have lower numbers, and those from `high` on higher ones
abbrev pub invariant-loop-low : goal.invariant-loop-low
invariant-loop-low l = (l.low ≤ l.high) × (l.high ≤ length l.stack) × ((least : ℕ) → AreBlocks least l.stack → Between l.stack l.number l.low l.high)

abbrev pub decreases-loop-low : goal.decreases-loop-low
decreases-loop-low l = l.high - l.low
