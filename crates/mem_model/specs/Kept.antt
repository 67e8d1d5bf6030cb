-- The blocks that a memory keeps, and the memory that they are.
use Rattle.std.specs.Prelude.{◌≡◌, ℕ, ℤ, ◌+◌, List, [], ◌∷◌, ◌++◌, length, map, take, drop, not, Bool, true, false, Result, Ok, Err, IsOk}
use Rattle.std.specs.FinMap as fin
use Rattle.std.specs.FinMap.{FinMap}
use Rattle.mem_model.specs.declared.memory.BlockName.{BlockName}
use Rattle.mem_model.specs.declared.memory.Byte.{Byte}
use Rattle.mem_model.specs.declared.memory.Word.{Word}
use Rattle.mem_model.specs.declared.memory.Cell.{Cell}
use Rattle.mem_model.specs.declared.block.Block.{Block}
use Rattle.mem_model.specs.declared.step.Trap.{Trap}
use Rattle.mem_model.specs.declared.step.Trap.TheVariants.{StackLeak, Released, OutOfBlock}
use Rattle.mem_model.specs.Blocks.{place_cmp, same_block}
use Rattle.mem_model.specs.Words.{cell_size, word_bytes, word_in}
use Rattle.mem_model.specs.Memory.{Memory, Header, Given, Shares, Leaks, put_bytes, is_all}

abbrev pub header_of : Block → Header
header_of b = record { size = length b.bytes.items; constant = b.constant; released = b.released }

abbrev pub named_header : BlockName × Block → BlockName × Header
named_header e = (e.0, header_of e.1)

-- the bytes of the blocks; where a name stands twice, those of the first block
abbrev pub kept_bytes : List (BlockName × Block) → FinMap place_cmp Byte
kept_bytes [] = fin.empty
kept_bytes (e ∷ es) = put_bytes (fin.retain_keys (kept_bytes es) (λ place. not (same_block e.0 place.0))) e.0 0 e.1.bytes.items

unfoldable pub memory_of : List (BlockName × Block) → Memory
memory_of es = record { blocks = fin.from_entries (map named_header es); bytes = kept_bytes es }

-- ---- one block

-- the word of a cell in a block's bytes, or the trap
abbrev pub word_at : Cell → List Byte → Result ℕ Trap → Result Word Trap
word_at cell bytes (Err e) = Err e
word_at cell bytes (Ok offset) = word_in cell (take (cell_size cell) (drop offset bytes))

-- the block with other bytes from an offset on
abbrev pub IsOverwritten : Block → ℕ → List Byte → Block → Type 0
IsOverwritten old offset bytes new = (header_of new ≡ header_of old) × (new.bytes.items ≡ take offset old.bytes.items ++ (bytes ++ drop (offset + length bytes) old.bytes.items))

abbrev pub IsWritten : {U : Type 0} → Result ℕ Trap → Cell → Given → Block → Block → Result U Trap → Type 0
IsWritten (Err trap) cell given old new result = (result ≡ Err trap) × (new ≡ old)
IsWritten (Ok offset) cell Leaks old new result = (result ≡ Err StackLeak) × (new ≡ old)
IsWritten (Ok offset) cell (Shares word) old new result = IsOk result × IsOverwritten old offset (word_bytes cell word) new

abbrev pub released_by : {U : Type 0} → Bool → Bool → Block → Block → Result U Trap → Type 0
released_by true whole old new result = (result ≡ Err Released) × (new ≡ old)
released_by false false old new result = (result ≡ Err OutOfBlock) × (new ≡ old)
released_by false true old new result = IsOk result × (new.bytes.items ≡ old.bytes.items) × (header_of new ≡ record (header_of old) { released = true })

-- the whole block is released, once
abbrev pub IsReleased : {U : Type 0} → ℕ → ℤ → Block → Block → Result U Trap → Type 0
IsReleased count offset old new result = released_by old.released (is_all (length old.bytes.items) offset count) old new result
