-- The capture area, and a word put into it.
use Rattle.std.specs.Prelude.{◌≡◌, ℕ, ◌*◌, Some, false}
use Rattle.std.specs.FinMap as fin
use Rattle.mem_model.specs.declared.memory.BlockName.TheVariants.{Captures}
use Rattle.mem_model.specs.declared.memory.Ptr.{Ptr}
use Rattle.mem_model.specs.Memory.{Memory, put_bytes}
use Rattle.mem_model.specs.Words.{pointer_bytes}

-- the memory has the capture area: 512 bytes that can be written
abbrev pub IsArea : Memory → Type 0
IsArea m = fin.get m.blocks Captures ≡ Some (record { size = 512; constant = false; released = false })

-- the memory with a word at a place among those of the capture area
abbrev pub with_word : Memory → ℕ → Ptr → Memory
with_word m k p = record m { bytes = put_bytes m.bytes Captures (8 * k) (pointer_bytes p) }
