-- One thread: its calls, its registers, its own stack, and what the entry points answer to it.
use Rattle.std.specs.Prelude.{ℕ, ℤ, ◌+◌, List, [], ◌∷◌, ◌++◌, length, map, take, drop, Bool, cond, ◌&&◌, Option, Some, None, Result, Ok, Err, ◌==◌}
use Rattle.std.specs.Str.{bytes_eq}
use Rattle.ir_core.specs.declared.module.Param.{Param}
pub use Rattle.ir_core.specs.Places.{Name, Place}
use Rattle.mem_model.specs.declared.memory.BlockName.TheVariants.{Arg, Global, Heap, Stack, Captures, Code as CodeBlock}
use Rattle.mem_model.specs.declared.memory.Ptr.{Ptr}
use Rattle.mem_model.specs.declared.memory.Ptr.TheVariants.{Num as Number, At}
use Rattle.mem_model.specs.declared.memory.Byte.{Byte}
use Rattle.mem_model.specs.declared.memory.Word.{Word}
use Rattle.mem_model.specs.declared.memory.Word.TheVariants.{Int, Ptr as Address}
use Rattle.mem_model.specs.declared.memory.Cell.{Cell}
use Rattle.mem_model.specs.declared.phase.Phase.{Phase}
use Rattle.mem_model.specs.declared.step.Trap.{Trap}
use Rattle.mem_model.specs.declared.step.Trap.TheVariants.{NoBlock}
use Rattle.mem_model.specs.Memory.{Given, Shares, Leaks, inside}
use Rattle.mem_model.specs.Words.{cell_size, word_bytes, word_in}

-- ---- the state of a thread

-- the registers that are assigned
abbrev pub Registers : Type 0
Registers = Name → Option Word

-- where a call stands and how far it has come there, its registers, and the caller's register that takes its result
pub record Code : Type 0 where
  pub at : Place
  pub phase : Phase
  pub registers : Registers
  pub back : Option Name

-- the name of a block of a stack: its thread, and its number there
abbrev pub Spot : Type 0
Spot = ℕ × ℕ

-- a call that has not returned, with the stack blocks that end when it returns
pub record Frame : Type 0 where
  pub code : Code
  pub blocks : List (Spot × List Byte)

-- what the entry points answer to a thread now: to __kmpc_target_init, its number and the number of threads, the level, and the mode bit
pub record Answers : Type 0 where
  pub init : ℕ
  pub number : ℕ
  pub count : ℕ
  pub level : ℕ
  pub spmd : ℕ

-- its number, how many threads a region has, whether it enters the regions of its forks itself, as each thread of an SPMD kernel does, how
-- many blocks of its stack it has made, and its calls, the innermost first
pub record ThreadState : Type 0 where
  pub own : ℕ
  pub size : ℕ
  pub enters : Bool
  pub counter : ℕ
  pub frames : List Frame
  pub answers : Answers

-- what it is answered in a region, and outside of it
abbrev pub inside_region : ThreadState → Answers
inside_region t = record t.answers { number = t.own; count = t.size; level = 1 }

abbrev pub outside_region : ThreadState → Answers
outside_region t = record t.answers { number = 0; count = 1; level = 0 }

-- ---- registers

abbrev pub no_registers : Registers
no_registers = λ x. None

abbrev pub assigned : Registers → Option Name → Word → Registers
assigned r None word = r
assigned r (Some x) word = λ y. cond (bytes_eq y x) (Some word) (r y)

-- the words of a call's operands in the registers of its parameters
abbrev pub bound : List Param → List Word → Registers
bound (p ∷ ps) (word ∷ words) = λ x. cond (bytes_eq x p.name) (Some word) (bound ps words x)
bound _ _ = no_registers

-- ---- the own stack

abbrev pub same_spot : Spot → Spot → Bool
same_spot a b = (a.0 == b.0) && (a.1 == b.1)

-- an address in a stack, or a pointer elsewhere
pub data Where : Type 0 where
  InStack : Spot → ℤ → Where
  Elsewhere : Ptr → Where

abbrev pub where_is : Ptr → Where
where_is (Number n) = Elsewhere (Number n)
where_is (At (Arg n) offset) = Elsewhere (At (Arg n) offset)
where_is (At (Global n) offset) = Elsewhere (At (Global n) offset)
where_is (At (Heap n) offset) = Elsewhere (At (Heap n) offset)
where_is (At (Stack t n) offset) = InStack (t, n) offset
where_is (At Captures offset) = Elsewhere (At Captures offset)
where_is (At (CodeBlock n) offset) = Elsewhere (At (CodeBlock n) offset)

abbrev pub given_at : Where → Given
given_at (InStack spot offset) = Leaks
given_at (Elsewhere p) = Shares (Address p)

-- the word as it is given to shared memory
abbrev pub given_of : Word → Given
given_of (Int n) = Shares (Int n)
given_of (Address p) = given_at (where_is p)

abbrev pub or_else : {A : Type 0} → Option A → Option A → Option A
or_else (Some x) y = Some x
or_else None y = y

abbrev pub find_block : List (Spot × List Byte) → Spot → Option (List Byte)
find_block [] spot = None
find_block (b ∷ bs) spot = cond (same_spot spot b.0) (Some b.1) (find_block bs spot)

-- the bytes of a block in the calls that have not returned
abbrev pub find_in : List Frame → Spot → Option (List Byte)
find_in [] spot = None
find_in (f ∷ fs) spot = or_else (find_block f.blocks spot) (find_in fs spot)

abbrev pub put_block : Spot → List Byte → Spot × List Byte → Spot × List Byte
put_block spot bytes b = (b.0, cond (same_spot spot b.0) bytes b.1)

abbrev pub put_frame : Spot → List Byte → Frame → Frame
put_frame spot bytes f = record f { blocks = map (put_block spot bytes) f.blocks }

-- the calls with other bytes in a block
abbrev pub put_in : Spot → List Byte → List Frame → List Frame
put_in spot bytes fs = map (put_frame spot bytes) fs

abbrev pub word_from : Cell → List Byte → Result ℕ Trap → Result Word Trap
word_from cell bytes (Err e) = Err e
word_from cell bytes (Ok offset) = word_in cell (take (cell_size cell) (drop offset bytes))

-- the word of a cell in a block of the stack, or the trap
abbrev pub load_own : Option (List Byte) → ℤ → Cell → Result Word Trap
load_own None offset cell = Err NoBlock
load_own (Some bytes) offset cell = word_from cell bytes (inside (length bytes) offset (cell_size cell))

abbrev pub spliced : List Byte → List Byte → Result ℕ Trap → Result (List Byte) Trap
spliced bytes new (Err e) = Err e
spliced bytes new (Ok offset) = Ok (take offset bytes ++ new ++ drop (offset + length new) bytes)

-- a block's bytes with a word stored in a cell, or the trap
abbrev pub store_own : Option (List Byte) → ℤ → Cell → Word → Result (List Byte) Trap
store_own None offset cell word = Err NoBlock
store_own (Some bytes) offset cell word = spliced bytes (word_bytes cell word) (inside (length bytes) offset (cell_size cell))
