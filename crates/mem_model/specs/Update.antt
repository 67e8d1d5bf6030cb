-- Atomic changes of a cell: a read and a write in one step, tested as a write (LLVM Language Reference, "atomicrmw").
use Rattle.std.specs.Prelude.{ℕ, Result, Ok, Err, true}
use Rattle.std.specs.FinMap as fin
use Rattle.mem_model.specs.declared.memory.BlockName.{BlockName}
use Rattle.mem_model.specs.declared.memory.Ptr.{Ptr}
use Rattle.mem_model.specs.declared.memory.Ptr.TheVariants.{Num as Number, At}
use Rattle.mem_model.specs.declared.memory.Word.{Word}
use Rattle.mem_model.specs.declared.memory.Word.TheVariants.{Int, Ptr as Address}
use Rattle.mem_model.specs.declared.memory.Cell.{Cell}
use Rattle.mem_model.specs.declared.step.Trap.{Trap}
use Rattle.mem_model.specs.declared.step.Trap.TheVariants.{NoBlock, NotNumber}
use Rattle.mem_model.specs.Words.{cell_size, word_bytes, word_in}
use Rattle.mem_model.specs.Memory.{Memory, access, bytes_at, put_bytes}

-- the memory behind the change, and the number that stood there
pub record Updated : Type 0 where
  pub memory : Memory
  pub old : ℕ

abbrev pub update_number : Memory → BlockName → Cell → ℕ → (ℕ → ℕ) → Result Word Trap → Result Updated Trap
update_number m block cell offset change (Err e) = Err e
update_number m block cell offset change (Ok (Address p)) = Err NotNumber
update_number m block cell offset change (Ok (Int n)) = Ok (record { memory = record m { bytes = put_bytes m.bytes block offset (word_bytes cell (Int (change n))) }; old = n })

abbrev pub update_at : Memory → BlockName → Cell → (ℕ → ℕ) → Result ℕ Trap → Result Updated Trap
update_at m block cell change (Err e) = Err e
update_at m block cell change (Ok offset) = update_number m block cell offset change (word_in cell (bytes_at m block offset (cell_size cell)))

-- the number in an integer cell at a pointer changed, or the trap
abbrev pub Update : Memory → Ptr → Cell → (ℕ → ℕ) → Result Updated Trap
Update m (Number n) cell change = Err NoBlock
Update m (At block offset) cell change = update_at m block cell change (access (fin.get m.blocks block) offset (cell_size cell) true)
