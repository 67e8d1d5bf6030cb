-- Captured words, one by one.
use Rattle.std.specs.Prelude.{◌≡◌, ℕ, ℤ, ◌<◌, ◌^◌, List, length, slice_get, Option, Some, None, Result}
use Rattle.mem_model.specs.declared.memory.Ptr.{Ptr}
use Rattle.mem_model.specs.declared.memory.Byte.{Byte}
use Rattle.mem_model.specs.declared.memory.Cell.TheVariants.{Ptr as PtrCell}
use Rattle.mem_model.specs.declared.step.Trap.{Trap}
use Rattle.mem_model.specs.Values.{and_then}
use Rattle.mem_model.specs.Thread.{Where, InStack, Elsewhere, load_own}
use Rattle.mem_model.specs.Regions.{shared_word}
use Rattle.thread_state.specs.declared.state.StackBlock.{StackBlock}
use Rattle.captures.specs.declared.words.Spot.{Spot}

-- where a pointer points to: to this place of a stack, or to none
abbrev pub where_seen : Ptr → Option Spot → Where
where_seen at (Some spot) = InStack (spot.thread, spot.number) spot.offset
where_seen at None = Elsewhere at

-- the captured word at an offset of a block
abbrev pub word_at : Option (List Byte) → ℤ → Result Ptr Trap
word_at bytes offset = and_then (load_own bytes offset PtrCell) shared_word

-- no block is longer than offsets tell
abbrev pub AreShort : List StackBlock → Type 0
AreShort bs = (at : ℕ) (b : StackBlock) → slice_get bs at ≡ Some b → length b.bytes.items < 2 ^ 63
