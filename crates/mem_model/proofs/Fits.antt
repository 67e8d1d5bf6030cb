-- A word that is loaded is of its cell.
use Rattle.std.proofs.Common.{ℕ, ℤ, List, take, drop, length, Bool, true, false, Option, Some, None, Result, Ok, Err}
use Rattle.std.specs.Prelude.{IfOk, if◌then◌else◌}
use Rattle.std.specs.FinMap as fin
use Rattle.std.proofs.Math.Nat.{mod-lt}
use Rattle.std.proofs.lemmas.Nat.{pow_pos}
use Rattle.mem_model.specs.declared.memory.BlockName.{BlockName}
use Rattle.mem_model.specs.declared.memory.Ptr.{Ptr}
use Rattle.mem_model.specs.declared.memory.Ptr.TheVariants.{Num as Number, At}
use Rattle.mem_model.specs.declared.memory.Byte.{Byte}
use Rattle.mem_model.specs.declared.memory.Word.TheVariants.{Ptr as Address}
use Rattle.mem_model.specs.declared.memory.Cell.{Cell}
use Rattle.mem_model.specs.declared.memory.Cell.TheVariants.{Int as IntCell, Ptr as PtrCell}
use Rattle.mem_model.specs.declared.step.Trap.{Trap}
use Rattle.mem_model.specs.declared.step.Trap.TheVariants.{NotNumber}
use Rattle.mem_model.specs.Words.{cell_size, number_in, are_parts, first_part, integer_word, address_word, pointer_word, word_in}
use Rattle.mem_model.specs.Memory.{Memory, inside, access, bytes_at, load_from, Load}
use Rattle.mem_model.specs.Thread.{word_from, load_own}
use Rattle.mem_model.specs.Answers.{IsOf}

integer_fits : (width : ℕ) (o : Option ℕ) → IfOk (integer_word width o) (IsOf (IntCell width))
integer_fits width None = tt
integer_fits width (Some n) = mod-lt n (pow_pos width)

parts_fit : (p : Ptr) (b : Bool) → IfOk (if b then Ok (Address p) else Err NotNumber) (IsOf PtrCell)
parts_fit p true = tt
parts_fit p false = tt

address_fits : (bytes : List Byte) (o : Option Ptr) → IfOk (address_word bytes o) (IsOf PtrCell)
address_fits bytes None = tt
address_fits bytes (Some p) = parts_fit p (are_parts p 0 bytes)

pointer_fits : (bytes : List Byte) (o : Option ℕ) → IfOk (pointer_word bytes o) (IsOf PtrCell)
pointer_fits bytes None = address_fits bytes (first_part bytes)
pointer_fits bytes (Some n) = tt

word_fits : (cell : Cell) (bytes : List Byte) → IfOk (word_in cell bytes) (IsOf cell)
word_fits (IntCell width) bytes = integer_fits width (number_in bytes)
word_fits PtrCell bytes = pointer_fits bytes (number_in bytes)

-- ---- from a thread's own stack

from_fits : (cell : Cell) (bytes : List Byte) (r : Result ℕ Trap) → IfOk (word_from cell bytes r) (IsOf cell)
from_fits cell bytes (Err e) = tt
from_fits cell bytes (Ok offset) = word_fits cell (take (cell_size cell) (drop offset bytes))

pub own_fits : (o : Option (List Byte)) (offset : ℤ) (cell : Cell) → IfOk (load_own o offset cell) (IsOf cell)
own_fits None offset cell = tt
own_fits (Some bytes) offset cell = from_fits cell bytes (inside (length bytes) offset (cell_size cell))

-- ---- from shared memory

at_fits : (m : Memory) (block : BlockName) (cell : Cell) (r : Result ℕ Trap) → IfOk (load_from m block cell r) (IsOf cell)
at_fits m block cell (Err e) = tt
at_fits m block cell (Ok offset) = word_fits cell (bytes_at m block offset (cell_size cell))

pub load_fits : (m : Memory) (at : Ptr) (cell : Cell) → IfOk (Load m at cell) (IsOf cell)
load_fits m (Number n) cell = tt
load_fits m (At block offset) cell = at_fits m block cell (access (fin.get m.blocks block) offset (cell_size cell) false)
