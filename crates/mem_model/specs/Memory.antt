-- The memory that threads share: blocks, and what an access to one gives or how it traps.
use Rattle.std.specs.Prelude.{ℕ, zero, suc, ℤ, pos, negsuc, ◌+◌, List, [], ◌∷◌, length, replicate, map, Bool, true, false, ◌&&◌, Option, Some, None, Result, Ok, Err, nat_le, ◌==◌, if◌then◌else◌}
use Rattle.std.specs.FinMap as fin
use Rattle.std.specs.FinMap.{FinMap}
use Rattle.mem_model.specs.declared.memory.BlockName.{BlockName}
use Rattle.mem_model.specs.declared.memory.BlockName.TheVariants.{Heap}
use Rattle.mem_model.specs.declared.memory.Ptr.{Ptr}
use Rattle.mem_model.specs.declared.memory.Ptr.TheVariants.{Num as Number, At}
use Rattle.mem_model.specs.declared.memory.Byte.{Byte}
use Rattle.mem_model.specs.declared.memory.Byte.TheVariants.{Num, Part}
use Rattle.mem_model.specs.declared.memory.Word.{Word}
use Rattle.mem_model.specs.declared.memory.Cell.{Cell}
use Rattle.mem_model.specs.declared.step.Trap.{Trap}
use Rattle.mem_model.specs.declared.step.Trap.TheVariants.{NoBlock, Released, OutOfBlock, Constant, StackLeak, TooLarge}
use Rattle.mem_model.specs.Blocks.{block_cmp, place_cmp}
use Rattle.mem_model.specs.Words.{cell_size, word_bytes, word_in}

pub record Header : Type 0 where
  pub size : ℕ
  pub constant : Bool
  pub released : Bool

-- the blocks by name, and their bytes by block and offset
pub record Memory : Type 0 where
  pub blocks : FinMap block_cmp Header
  pub bytes : FinMap place_cmp Byte

abbrev pub no_blocks : Memory
no_blocks = record { blocks = fin.empty; bytes = fin.empty }

-- ---- the tests of an access, in their order

-- these bytes lie whole in the block: where they begin
abbrev pub inside : ℕ → ℤ → ℕ → Result ℕ Trap
inside size (pos offset) count = if nat_le (offset + count) size then Ok offset else Err OutOfBlock
inside size (negsuc offset) count = Err OutOfBlock

abbrev pub unless : Bool → Trap → Result ℕ Trap → Result ℕ Trap
unless false trap go = go
unless true trap go = Err trap

abbrev pub then_unless : Result ℕ Trap → Bool → Trap → Result ℕ Trap
then_unless (Err e) fails trap = Err e
then_unless (Ok offset) fails trap = unless fails trap (Ok offset)

-- where an access of so many bytes begins: the block is there, it is not released, the bytes lie in it, and a write doesn't go to a constant
abbrev pub access : Option Header → ℤ → ℕ → Bool → Result ℕ Trap
access None offset count writes = Err NoBlock
access (Some header) offset count writes = unless header.released Released (then_unless (inside header.size offset count) (writes && header.constant) Constant)

-- ---- loads and stores

abbrev pub byte_or_zero : Option Byte → Byte
byte_or_zero None = Num 0
byte_or_zero (Some byte) = byte

-- the bytes of a block from an offset on
abbrev pub bytes_at : Memory → BlockName → ℕ → ℕ → List Byte
bytes_at m block offset zero = []
bytes_at m block offset (suc count) = byte_or_zero (fin.get m.bytes (block, offset)) ∷ bytes_at m block (offset + 1) count

abbrev pub load_from : Memory → BlockName → Cell → Result ℕ Trap → Result Word Trap
load_from m block cell (Err e) = Err e
load_from m block cell (Ok offset) = word_in cell (bytes_at m block offset (cell_size cell))

-- the word of a cell at a pointer, or the trap
abbrev pub Load : Memory → Ptr → Cell → Result Word Trap
Load m (Number n) cell = Err NoBlock
Load m (At block offset) cell = load_from m block cell (access (fin.get m.blocks block) offset (cell_size cell) false)

-- the bytes are put one after another, from an offset on
abbrev pub put_bytes : FinMap place_cmp Byte → BlockName → ℕ → List Byte → FinMap place_cmp Byte
put_bytes bytes block offset [] = bytes
put_bytes bytes block offset (b ∷ bs) = put_bytes (fin.insert bytes (block, offset) b) block (offset + 1) bs

-- what a store gives to shared memory: a word, or a stack address, which may not leave its thread
pub data Given : Type 0 where
  Shares : Word → Given
  Leaks : Given

abbrev pub store_given : Memory → BlockName → Cell → ℕ → Given → Result Memory Trap
store_given m block cell offset Leaks = Err StackLeak
store_given m block cell offset (Shares word) = Ok (record m { bytes = put_bytes m.bytes block offset (word_bytes cell word) })

abbrev pub store_to : Memory → BlockName → Cell → Given → Result ℕ Trap → Result Memory Trap
store_to m block cell given (Err e) = Err e
store_to m block cell given (Ok offset) = store_given m block cell offset given

-- the memory with a word stored in a cell at a pointer, or the trap
abbrev pub Store : Memory → Ptr → Cell → Given → Result Memory Trap
Store m (Number n) cell given = Err NoBlock
Store m (At block offset) cell given = store_to m block cell given (access (fin.get m.blocks block) offset (cell_size cell) true)

-- ---- blocks come and go

-- 1,048,576 bytes
unfoldable pub block_limit : ℕ
block_limit = 1048576

-- the memory with a new block of these bytes
abbrev pub with_block : Memory → BlockName → Bool → List Byte → Memory
with_block m block constant bytes = record {
  blocks = fin.insert m.blocks block (record { size = length bytes; constant = constant; released = false });
  bytes = put_bytes m.bytes block 0 bytes;
}

-- the memory with a new block of so many zero bytes, or the trap
abbrev pub Allocate : Memory → BlockName → ℕ → Bool → Result Memory Trap
Allocate m block size constant = if nat_le size block_limit then Ok (with_block m block constant (replicate size (Num 0))) else Err TooLarge

abbrev pub is_all : ℕ → ℤ → ℕ → Bool
is_all size (pos offset) count = (offset == 0) && (count == size)
is_all size (negsuc offset) count = false

abbrev pub release_header : Memory → BlockName → ℤ → ℕ → Option Header → Result Memory Trap
release_header m block offset count None = Err NoBlock
release_header m block offset count (Some header) =
    if header.released then Err Released else if is_all header.size offset count then Ok (record m { blocks = fin.insert m.blocks block (record header { released = true }) }) else Err OutOfBlock

-- the memory with a heap block released, of which the pointer is the beginning and count the size; or the trap
abbrev pub Release : Memory → Ptr → ℕ → Result Memory Trap
Release m (At (Heap n) offset) count = release_header m (Heap n) offset count (fin.get m.blocks (Heap n))
Release m _ count = Err NoBlock

-- ---- what is shown

-- a byte that is part of a pointer shows only as such
abbrev pub shown_byte : Byte → Option ℕ
shown_byte (Num n) = Some n
shown_byte (Part p k) = None

abbrev pub header_size : Option Header → ℕ
header_size None = 0
header_size (Some header) = header.size

abbrev pub shown_block : Memory → BlockName → List (Option ℕ)
shown_block m block = map shown_byte (bytes_at m block 0 (header_size (fin.get m.blocks block)))
