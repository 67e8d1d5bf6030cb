-- Names of blocks that aren't used yet stay unused.
use Rattle.std.proofs.Common.{◌≡◌, ℕ, ◌+◌, ◌≤◌, List, [], ◌∷◌, Bool, None, ◌∙◌, arith}
use Rattle.std.specs.FinMap as fin
use Rattle.std.specs.FinMap.{get-empty}
use Rattle.mem_model.specs.declared.launch.Arg.{Arg}
use Rattle.mem_model.specs.declared.launch.Arg.TheVariants.{Buffer, Int, Null}
use Rattle.mem_model.specs.declared.memory.BlockName.{BlockName}
use Rattle.mem_model.specs.declared.memory.BlockName.TheVariants.{Arg as ArgBlock, Global as GlobalBlock}
use Rattle.mem_model.specs.declared.memory.Byte.{Byte}
use Rattle.mem_model.specs.Blocks.{block_cmp}
use Rattle.mem_model.specs.Memory.{Memory, no_blocks, with_block}
use Rattle.mem_model.specs.Launching.{with_buffer, with_buffers}
use Rattle.mem_model.proofs.BlockLaws.{header_apart}
use Rattle.first_memory.specs.Blocks.{HasNoArgs, HasNoGlobals}

apart : (m : Memory) (a b : BlockName) (constant : Bool) (bytes : List Byte) → (b ≡ a → ⊥) → fin.get m.blocks b ≡ None → fin.get (with_block m a constant bytes).blocks b ≡ None
apart m a b constant bytes other none = header_apart m.blocks a b _ other ∙ none

arg_apart : (i n : ℕ) → i + 1 ≤ n → ArgBlock n ≡ ArgBlock i → ⊥
arg_apart i n l e = let same : n ≡ i = cc in absurd (omega arith)

global_apart : (i n : ℕ) → i + 1 ≤ n → GlobalBlock n ≡ GlobalBlock i → ⊥
global_apart i n l e = let same : n ≡ i = cc in absurd (omega arith)

pub args_after : (m : Memory) (i : ℕ) (bytes : List Byte) (constant : Bool) → HasNoArgs m i → HasNoArgs (with_block m (ArgBlock i) constant bytes) (i + 1)
args_after m i bytes constant fresh n l = apart m (ArgBlock i) (ArgBlock n) constant bytes (arg_apart i n l) (fresh n (omega arith))

pub args_left : (m : Memory) (i : ℕ) → HasNoArgs m i → HasNoArgs m (i + 1)
args_left m i fresh n l = fresh n (omega arith)

pub globals_after : (m : Memory) (i : ℕ) (bytes : List Byte) (constant : Bool) → HasNoGlobals m i → HasNoGlobals (with_block m (GlobalBlock i) constant bytes) (i + 1)
globals_after m i bytes constant fresh n l = apart m (GlobalBlock i) (GlobalBlock n) constant bytes (global_apart i n l) (fresh n (omega arith))

-- buffers are no globals
pub buffers_keep : (m : Memory) (i : ℕ) (args : List Arg) → HasNoGlobals m 0 → HasNoGlobals (with_buffers i args m) 0
buffers_keep m i [] fresh = fresh
buffers_keep m i (Buffer bytes ∷ args) fresh = buffers_keep (with_buffer i (Buffer bytes) m) (i + 1) args (λ n l. apart m (ArgBlock i) (GlobalBlock n) _ _ (λ e. let f : ⊥ = cc in f) (fresh n l))
buffers_keep m i (Int k ∷ args) fresh = buffers_keep m (i + 1) args fresh
buffers_keep m i (Null ∷ args) fresh = buffers_keep m (i + 1) args fresh

pub none_yet : (name : BlockName) → fin.get no_blocks.blocks name ≡ None
none_yet name = get-empty block_cmp name
