-- Laws of the memory: what each test of an access answers, and that a load gives what was stored.
use Rattle.std.specs.Prelude.{ℕ, ◌+◌, ◌^◌, ◌<◌, ◌≤◌, ◌≡◌, ◌⊎◌, ℤ, pos, negsuc, Bool, true, false, replicate, Some, None, Ok, Err}
use Rattle.std.specs.FinMap as fin
use Rattle.mem_model.specs.declared.memory.BlockName.{BlockName}
use Rattle.mem_model.specs.declared.memory.BlockName.TheVariants.{Heap}
use Rattle.mem_model.specs.declared.memory.Ptr.{Ptr}
use Rattle.mem_model.specs.declared.memory.Ptr.TheVariants.{Num as Number, At}
use Rattle.mem_model.specs.declared.memory.Byte.TheVariants.{Num}
use Rattle.mem_model.specs.declared.memory.Word.{Word}
use Rattle.mem_model.specs.declared.memory.Word.TheVariants.{Int, Ptr as Address}
use Rattle.mem_model.specs.declared.memory.Cell.{Cell}
use Rattle.mem_model.specs.declared.memory.Cell.TheVariants.{Int as IntCell, Ptr as PtrCell}
use Rattle.mem_model.specs.declared.step.Trap.TheVariants.{NoBlock, Released, OutOfBlock, Constant, StackLeak, TooLarge, NotNumber}
use Rattle.std.specs.Bool.{Decides}
use Rattle.mem_model.specs.Blocks.{same_block, same_ptr}
use Rattle.mem_model.specs.Words.{cell_size, word_bytes, word_in}
use Rattle.mem_model.specs.Memory.{Memory, Header, Given, Shares, Leaks, bytes_at, Load, Store, Allocate, Release, block_limit}

-- ---- the tests of an access, in their order

-- so many bytes at an offset lie whole in a block of this size
abbrev pub Lies : ℕ → ℤ → ℕ → Type 0
Lies size (pos offset) count = offset + count ≤ size
Lies size (negsuc offset) count = ⊥

-- a pointer that is a number leads to no block
abbrev pub NumberTraps : Type 0
NumberTraps = (m : Memory) (n : ℕ) (cell : Cell) (given : Given) → (Load m (Number n) cell ≡ Err NoBlock) × (Store m (Number n) cell given ≡ Err NoBlock)

-- nor does a pointer into a block that isn't there
abbrev pub MissingTraps : Type 0
MissingTraps = (m : Memory) (block : BlockName) (offset : ℤ) (cell : Cell) (given : Given) → fin.get m.blocks block ≡ None → (Load m (At block offset) cell ≡ Err NoBlock) × (Store m (At block offset) cell given ≡ Err NoBlock)

-- a released block, whatever the offset
abbrev pub ReleasedTraps : Type 0
ReleasedTraps = (m : Memory) (block : BlockName) (offset : ℤ) (cell : Cell) (given : Given) (header : Header) → fin.get m.blocks block ≡ Some header → header.released ≡ true → (Load m (At block offset) cell ≡ Err Released) × (Store m (At block offset) cell given ≡ Err Released)

-- bytes that don't lie whole in their block, also where it is constant
abbrev pub OutsideTraps : Type 0
OutsideTraps = (m : Memory) (block : BlockName) (offset : ℤ) (cell : Cell) (given : Given) (header : Header) → fin.get m.blocks block ≡ Some header → header.released ≡ false → (Lies header.size offset (cell_size cell) → ⊥) → (Load m (At block offset) cell ≡ Err OutOfBlock) × (Store m (At block offset) cell given ≡ Err OutOfBlock)

-- a store to a constant, also of a stack address
abbrev pub ConstantTraps : Type 0
ConstantTraps = (m : Memory) (block : BlockName) (offset : ℤ) (cell : Cell) (given : Given) (header : Header) → fin.get m.blocks block ≡ Some header → header.released ≡ false → Lies header.size offset (cell_size cell) → header.constant ≡ true → Store m (At block offset) cell given ≡ Err Constant

-- a stack address, where all other tests pass
abbrev pub LeakTraps : Type 0
LeakTraps = (m : Memory) (block : BlockName) (offset : ℤ) (cell : Cell) (header : Header) → fin.get m.blocks block ≡ Some header → header.released ≡ false → Lies header.size offset (cell_size cell) → header.constant ≡ false → Store m (At block offset) cell Leaks ≡ Err StackLeak

-- where all tests pass, a load reads the block's bytes, also of a constant
abbrev pub LoadReads : Type 0
LoadReads = (m : Memory) (block : BlockName) (offset : ℕ) (cell : Cell) (header : Header) → fin.get m.blocks block ≡ Some header → header.released ≡ false → Lies header.size (pos offset) (cell_size cell) → Load m (At block (pos offset)) cell ≡ word_in cell (bytes_at m block offset (cell_size cell))

-- and a store goes through
abbrev pub StoreGoes : Type 0
StoreGoes = (m : Memory) (block : BlockName) (offset : ℤ) (cell : Cell) (word : Word) (header : Header) → fin.get m.blocks block ≡ Some header → header.released ≡ false → Lies header.size offset (cell_size cell) → header.constant ≡ false → (after : Memory) × (Store m (At block offset) cell (Shares word) ≡ Ok after)

-- ---- blocks come and go

-- no block is above the limit
abbrev pub AllocateLarge : Type 0
AllocateLarge = (m : Memory) (block : BlockName) (size : ℕ) (constant : Bool) → block_limit < size → Allocate m block size constant ≡ Err TooLarge

abbrev pub InHeap : Ptr → Type 0
InHeap (At (Heap n) offset) = Unit {0}
InHeap _ = ⊥

-- the pointer is the block's beginning, and the count its size
abbrev pub IsAll : ℕ → ℤ → ℕ → Type 0
IsAll size offset count = (offset ≡ pos 0) × (count ≡ size)

-- only a heap block is released
abbrev pub ReleaseHeapOnly : Type 0
ReleaseHeapOnly = (m : Memory) (p : Ptr) (count : ℕ) → (InHeap p → ⊥) → Release m p count ≡ Err NoBlock

-- one that is there
abbrev pub ReleaseMissing : Type 0
ReleaseMissing = (m : Memory) (n : ℕ) (offset : ℤ) (count : ℕ) → fin.get m.blocks (Heap n) ≡ None → Release m (At (Heap n) offset) count ≡ Err NoBlock

-- once
abbrev pub ReleaseTwice : Type 0
ReleaseTwice = (m : Memory) (n : ℕ) (offset : ℤ) (count : ℕ) (header : Header) → fin.get m.blocks (Heap n) ≡ Some header → header.released ≡ true → Release m (At (Heap n) offset) count ≡ Err Released

-- and whole
abbrev pub ReleasePart : Type 0
ReleasePart = (m : Memory) (n : ℕ) (offset : ℤ) (count : ℕ) (header : Header) → fin.get m.blocks (Heap n) ≡ Some header → header.released ≡ false → (IsAll header.size offset count → ⊥) → Release m (At (Heap n) offset) count ≡ Err OutOfBlock

-- a block up to the limit is made
abbrev pub AllocateGoes : Type 0
AllocateGoes = (m : Memory) (block : BlockName) (size : ℕ) (constant : Bool) → size ≤ block_limit → (after : Memory) × (Allocate m block size constant ≡ Ok after)

-- a new block has its size, and is not released
abbrev pub NewBlock : Type 0
NewBlock = (m after : Memory) (block : BlockName) (size : ℕ) (constant : Bool) → Allocate m block size constant ≡ Ok after → fin.get after.blocks block ≡ Some (record { size = size; constant = constant; released = false })

-- all its bytes are zero
abbrev pub NewBytes : Type 0
NewBytes = (m after : Memory) (block : BlockName) (size : ℕ) (constant : Bool) → Allocate m block size constant ≡ Ok after → bytes_at after block 0 size ≡ replicate size (Num 0)

-- a new block changes no load of another
abbrev pub NewBlockApart : Type 0
NewBlockApart = (m after : Memory) (block other : BlockName) (size : ℕ) (constant : Bool) (place : ℤ) (read : Cell) → (other ≡ block → ⊥) → Allocate m block size constant ≡ Ok after → Load after (At other place) read ≡ Load m (At other place) read

-- a heap block that is there is released, once and whole
abbrev pub ReleaseGoes : Type 0
ReleaseGoes = (m : Memory) (n : ℕ) (offset : ℤ) (count : ℕ) (header : Header) → fin.get m.blocks (Heap n) ≡ Some header → header.released ≡ false → IsAll header.size offset count → (after : Memory) × (Release m (At (Heap n) offset) count ≡ Ok after)

-- then every load and store there traps
abbrev pub ReleaseThenTraps : Type 0
ReleaseThenTraps = (m after : Memory) (n : ℕ) (offset place : ℤ) (count : ℕ) (cell : Cell) (given : Given) → Release m (At (Heap n) offset) count ≡ Ok after → (Load after (At (Heap n) place) cell ≡ Err Released) × (Store after (At (Heap n) place) cell given ≡ Err Released)

-- and a load of another block gives what it gave
abbrev pub ReleaseApart : Type 0
ReleaseApart = (m after : Memory) (n : ℕ) (offset place : ℤ) (count : ℕ) (other : BlockName) (read : Cell) → (other ≡ Heap n → ⊥) → Release m (At (Heap n) offset) count ≡ Ok after → Load after (At other place) read ≡ Load m (At other place) read

-- ---- words

-- the word is of the cell's kind, and in its range
abbrev pub Holds : Cell → Word → Type 0
Holds (IntCell width) (Int n) = n < 2 ^ width
Holds PtrCell (Address (Number n)) = n < 2 ^ 64
Holds PtrCell (Address (At block offset)) = Unit {0}
Holds _ _ = ⊥

-- the bytes of a word hold that word
abbrev pub WordComesBack : Type 0
WordComesBack = (cell : Cell) (word : Word) → Holds cell word → word_in cell (word_bytes cell word) ≡ Ok word

-- ---- loads behind stores

-- a load behind a store of the same cell gives the word that was stored
abbrev pub StoreThenLoad : Type 0
StoreThenLoad = (m after : Memory) (p : Ptr) (cell : Cell) (word : Word) → Holds cell word → Store m p cell (Shares word) ≡ Ok after → Load after p cell ≡ Ok word

-- a store changes no load of another block
abbrev pub OtherBlockStays : Type 0
OtherBlockStays = (m after : Memory) (block other : BlockName) (offset place : ℤ) (cell read : Cell) (given : Given) → (other ≡ block → ⊥) → Store m (At block offset) cell given ≡ Ok after → Load after (At other place) read ≡ Load m (At other place) read

-- nor, in the same block, of bytes that it doesn't write
abbrev pub OtherBytesStay : Type 0
OtherBytesStay = (m after : Memory) (block : BlockName) (offset place : ℕ) (cell read : Cell) (word : Word) → Holds cell word → (place + cell_size read ≤ offset) ⊎ (offset + cell_size cell ≤ place) → Store m (At block (pos offset)) cell (Shares word) ≡ Ok after → Load after (At block (pos place)) read ≡ Load m (At block (pos place)) read

-- nor a block's size, or whether it is constant or released
abbrev pub StoreKeepsBlocks : Type 0
StoreKeepsBlocks = (m after : Memory) (p : Ptr) (cell : Cell) (given : Given) → Store m p cell given ≡ Ok after → after.blocks ≡ m.blocks

-- ---- numbers and addresses

-- the test on block names tells them apart
abbrev pub SameBlock : Type 0
SameBlock = (a b : BlockName) → Decides (same_block a b) (a ≡ b)

-- and that on pointers
abbrev pub SamePointer : Type 0
SamePointer = (p q : Ptr) → Decides (same_ptr p q) (p ≡ q)

-- an integer that is loaded is below 2 to its width
abbrev pub LoadFits : Type 0
LoadFits = (m : Memory) (p : Ptr) (width : ℕ) (word : Word) → Load m p (IntCell width) ≡ Ok word → Holds (IntCell width) word

-- where an address was stored, no integer is loaded
abbrev pub AddressIsNoNumber : Type 0
AddressIsNoNumber = (m after : Memory) (p : Ptr) (block : BlockName) (offset : ℤ) (width : ℕ) → 0 < width → width ≤ 64 → Store m p PtrCell (Shares (Address (At block offset))) ≡ Ok after → Load after p (IntCell width) ≡ Err NotNumber
