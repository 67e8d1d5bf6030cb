-- The example's buffer before and behind its store, in any memory.
use Rattle.std.proofs.Common.{◌≡◌, ℕ, pos, List, [], ◌∷◌, map, Bool, true, false, Option, Some, None, Result, Ok, ap, ◌∙◌}
use Rattle.std.specs.FinMap as fin
use Rattle.std.specs.FinMap.{FinMap, get-insert}
use Rattle.mem_model.specs.declared.memory.BlockName.TheVariants.{Arg, Captures}
use Rattle.mem_model.specs.declared.memory.Ptr.TheVariants.{At}
use Rattle.mem_model.specs.declared.memory.Byte.{Byte}
use Rattle.mem_model.specs.declared.memory.Byte.TheVariants.{Num}
use Rattle.mem_model.specs.declared.memory.Word.TheVariants.{Int}
use Rattle.mem_model.specs.declared.memory.Cell.TheVariants.{Int as IntCell}
use Rattle.mem_model.specs.declared.step.Trap.{Trap}
use Rattle.mem_model.specs.Blocks.{block_cmp}
use Rattle.mem_model.specs.Memory.{Memory, Header, Shares, access, header_size, bytes_at, put_bytes, shown_byte, shown_block, store_to, Store}
use Rattle.mem_model.specs.Launching.{Outcome, first_memory}
use Rattle.mem_model.proofs.Orders.{block_total}
use Rattle.mem_model.proofs.StoreLaws.{put_back}
use Rattle.refine_laws.specs.Example.{example, launch}

abbrev pub buffer : Header
buffer = record { size = 4; constant = false; released = false }

abbrev pub HasBuffer : Memory → Type 0
HasBuffer m = fin.get m.blocks (Arg 0) ≡ Some buffer

abbrev pub seven : List Byte
seven = Num 7 ∷ Num 0 ∷ Num 0 ∷ Num 0 ∷ []

-- the memory behind the store
abbrev pub with_seven : Memory → Memory
with_seven m = record m { bytes = put_bytes m.bytes (Arg 0) 0 seven }

abbrev pub StoresSeven : Memory → Result Memory Trap
StoresSeven m = Store m (At (Arg 0) (pos 0)) (IntCell 32) (Shares (Int 7))

pub goes : (m : Memory) → HasBuffer m → StoresSeven m ≡ Ok (with_seven m)
goes m e = ap (λ h. store_to m (Arg 0) (IntCell 32) (Shares (Int 7)) (access h (pos 0) 4 true)) e

abbrev result_bytes : List (Option ℕ)
result_bytes = Some 7 ∷ Some 0 ∷ Some 0 ∷ Some 0 ∷ []

pub shows : (m : Memory) → HasBuffer m → shown_block (with_seven m) (Arg 0) ≡ result_bytes
shows m e = ap (λ h. map shown_byte (bytes_at (with_seven m) (Arg 0) 0 (header_size h))) e ∙ ap (map shown_byte) (put_back m m.bytes (Arg 0) 0 seven)

-- the buffer is in a memory that it was put in last
is_there : (x : FinMap block_cmp Header) (h : Header) → fin.get (fin.insert x (Arg 0) h) (Arg 0) ≡ Some h
is_there x h = get-insert block_total x (Arg 0) h (Arg 0)

-- and stays where a capture area is put
pub stays : (x : FinMap block_cmp Header) (h : Header) → fin.get (fin.insert x Captures h) (Arg 0) ≡ fin.get x (Arg 0)
stays x h = get-insert block_total x Captures h (Arg 0)

pub first_has : (flag : Bool) → HasBuffer (first_memory (example flag) launch)
first_has flag = is_there fin.empty buffer

abbrev pub outcome_with : List (Option ℕ) → Outcome
outcome_with bytes = record { prints = []; blocks = bytes ∷ [] }

abbrev pub some_or : {A : Type 0} → A → Option A → A
some_or d None = d
some_or d (Some x) = x
