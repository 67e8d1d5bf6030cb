-- What a call that changes a memory answers, and what the memory is behind it.
use Rattle.std.specs.Prelude.{◌≡◌, ℕ, ◌<◌, Result, Ok, Err, IsOk}
use Rattle.std.specs.FinMap as fin
use Rattle.ir_core.specs.declared.answers.Or.{Or}
use Rattle.ir_core.specs.declared.answers.Or.TheVariants.{Refused, Memory as WantOfMemory}
use Rattle.mem_model.specs.declared.memory.BlockName.{BlockName}
use Rattle.mem_model.specs.declared.memory.Byte.{Byte}
use Rattle.mem_model.specs.declared.memory.Word.{Word}
use Rattle.mem_model.specs.declared.memory.Word.TheVariants.{Int, Ptr as Address}
use Rattle.mem_model.specs.declared.memory.Cell.{Cell}
use Rattle.mem_model.specs.declared.memory.Cell.TheVariants.{Int as IntCell, Ptr as PtrCell}
use Rattle.mem_model.specs.declared.step.Trap.{Trap}
use Rattle.mem_model.specs.Memory.{Memory, header_size}
use Rattle.ir_core.specs.FirstForm.{is_width}
use Rattle.std.specs.Prelude.{◌^◌, true}

-- the memory that was to come, or the trap and the memory as it was
abbrev pub IsDone : {U : Type 0} → Result Memory Trap → Memory → Memory → Result U Trap → Type 0
IsDone (Ok m) old new result = IsOk result × (new ≡ m)
IsDone (Err trap) old new result = (result ≡ Err trap) × (new ≡ old)

-- the trap, where there is one
abbrev pub only_trap : {A : Type 0} → Result A Trap → Result (Unit {0}) Trap
only_trap (Err trap) = Err trap
only_trap (Ok x) = Ok tt

-- the same of a call that may want memory, and then leaves all as it was
abbrev pub IsMade : {U : Type 0} → Result Memory Trap → Memory → Memory → Result U (Or Trap) → Type 0
IsMade expected old new (Err WantOfMemory) = new ≡ old
IsMade (Ok m) old new (Ok u) = new ≡ m
IsMade (Err trap) old new (Err (Refused refused)) = (refused ≡ trap) × (new ≡ old)
IsMade _ old new _ = ⊥

-- a cell that an access can be of: an integer of a width, or a pointer
abbrev pub IsCell : Cell → Type 0
IsCell (IntCell width) = is_width width ≡ true
IsCell PtrCell = Unit {0}

-- a word of the cell's kind, an integer below two to the width
abbrev pub IsOf : Cell → Word → Type 0
IsOf (IntCell width) (Int n) = n < 2 ^ width
IsOf PtrCell (Address p) = Unit {0}
IsOf _ _ = ⊥

-- the place is in a block that the memory has
abbrev pub IsInside : Memory → BlockName → ℕ → Type 0
IsInside m name at = at < header_size (fin.get m.blocks name)

-- the memory with another byte at a place
abbrev pub with_byte : Memory → BlockName → ℕ → Byte → Memory
with_byte m name at byte = record m { bytes = fin.insert m.bytes (name, at) byte }
