-- Words and the bytes that hold them, the lowest byte first.
use Rattle.std.specs.Prelude.{ℕ, zero, suc, ◌+◌, ◌*◌, ◌/◌, ◌%◌, ◌^◌, List, [], ◌∷◌, Bool, true, false, ◌&&◌, Option, Some, None, Result, Ok, Err, ◌==◌, if◌then◌else◌, option_map}
use Rattle.mem_model.specs.declared.memory.Ptr.{Ptr}
use Rattle.mem_model.specs.declared.memory.Ptr.TheVariants.{Num as Number, At}
use Rattle.mem_model.specs.declared.memory.Byte.{Byte}
use Rattle.mem_model.specs.declared.memory.Byte.TheVariants.{Num, Part}
use Rattle.mem_model.specs.declared.memory.Word.{Word}
use Rattle.mem_model.specs.declared.memory.Word.TheVariants.{Int, Ptr as Address}
use Rattle.mem_model.specs.declared.memory.Cell.{Cell}
use Rattle.mem_model.specs.declared.memory.Cell.TheVariants.{Int as IntCell, Ptr as PtrCell}
use Rattle.mem_model.specs.declared.step.Trap.{Trap}
use Rattle.mem_model.specs.declared.step.Trap.TheVariants.{NotNumber}
use Rattle.mem_model.specs.Blocks.{same_ptr}

-- how many bytes a cell takes: an i1 takes one
abbrev pub cell_size : Cell → ℕ
cell_size (IntCell width) = (width + 7) / 8
cell_size PtrCell = 8

-- ---- a word as bytes

abbrev pub number_bytes : ℕ → ℕ → List Byte
number_bytes zero n = []
number_bytes (suc size) n = Num (n % 256) ∷ number_bytes size (n / 256)

abbrev pub parts_from : ℕ → ℕ → Ptr → List Byte
parts_from zero k p = []
parts_from (suc count) k p = Part p k ∷ parts_from count (k + 1) p

-- a pointer that is a number is eight number bytes; an address is its eight parts
abbrev pub pointer_bytes : Ptr → List Byte
pointer_bytes (Number n) = number_bytes 8 n
pointer_bytes (At block offset) = parts_from 8 0 (At block offset)

abbrev pub word_bytes : Cell → Word → List Byte
word_bytes cell (Int n) = number_bytes (cell_size cell) n
word_bytes cell (Address p) = pointer_bytes p

-- ---- bytes as a word

-- the number that number bytes spell; none where a byte is part of a pointer
abbrev pub number_in : List Byte → Option ℕ
number_in [] = Some 0
number_in (Part p k ∷ bytes) = None
number_in (Num n ∷ bytes) = option_map (λ rest. n + 256 * rest) (number_in bytes)

-- whether these are the parts of a pointer from number k on
abbrev pub are_parts : Ptr → ℕ → List Byte → Bool
are_parts p k [] = true
are_parts p k (Num n ∷ bytes) = false
are_parts p k (Part q j ∷ bytes) = same_ptr p q && (k == j) && are_parts p (k + 1) bytes

abbrev pub first_part : List Byte → Option Ptr
first_part [] = None
first_part (Num n ∷ bytes) = None
first_part (Part p k ∷ bytes) = Some p

-- an integer is cut to its width
abbrev pub integer_word : ℕ → Option ℕ → Result Word Trap
integer_word width None = Err NotNumber
integer_word width (Some n) = Ok (Int (n % 2 ^ width))

abbrev pub address_word : List Byte → Option Ptr → Result Word Trap
address_word bytes None = Err NotNumber
address_word bytes (Some p) = if are_parts p 0 bytes then Ok (Address p) else Err NotNumber

abbrev pub pointer_word : List Byte → Option ℕ → Result Word Trap
pointer_word bytes (Some n) = Ok (Address (Number n))
pointer_word bytes None = address_word bytes (first_part bytes)

-- the word that bytes hold: an integer is number bytes, a pointer eight number bytes or the parts of one pointer in order
abbrev pub word_in : Cell → List Byte → Result Word Trap
word_in (IntCell width) bytes = integer_word width (number_in bytes)
word_in PtrCell bytes = pointer_word bytes (number_in bytes)
