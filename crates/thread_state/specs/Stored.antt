-- What loads and stores in a thread's own stack make of its state.
use Rattle.std.specs.Prelude.{◌≡◌, ℕ, List, ◌+◌, [], ◌∷◌, reverse, replicate, slice_get, Option, Some, None, Result, Ok, Err, IsOk}
use Rattle.ir_core.specs.declared.module.Module.{Module}
use Rattle.mem_model.specs.declared.memory.Byte.{Byte}
use Rattle.mem_model.specs.declared.memory.Byte.TheVariants.{Num}
use Rattle.mem_model.specs.declared.phase.Phase.TheVariants.{Begins}
use Rattle.mem_model.specs.declared.step.Trap.{Trap}
use Rattle.ir_core.specs.Places.{register_names}
use Rattle.mem_model.specs.declared.memory.Word.{Word}
use Rattle.mem_model.specs.Thread.{Frame, find_in, put_in}
use Rattle.mem_model.specs.Next.{with_frames}
use Rattle.thread_state.specs.declared.state.StackBlock.{StackBlock}
use Rattle.thread_state.specs.declared.state.ThreadState.{ThreadState as ThreadData}
use Rattle.thread_state.specs.Seen.{registers_seen, back_seen, thread_seen, IsThread, IsSeen}

-- the place of the block of a number; none where no block has it
abbrev pub IsBlockPlace : List StackBlock → ℕ → Option ℕ → Type 0
IsBlockPlace stack number (Some at) = (b : StackBlock) × (slice_get stack at ≡ Some b) × (b.number ≡ number)
IsBlockPlace stack number None = (at : ℕ) (b : StackBlock) → slice_get stack at ≡ Some b → b.number ≡ number → ⊥

-- the bytes of the block of a number in the calls that have not returned
abbrev pub own_block : Module → ThreadData → ℕ → Option (List Byte)
own_block m s number = find_in (thread_seen m s).frames (s.own, number)

-- the state with the bytes that were to come in a block, or the trap and the state as it was
abbrev pub IsStored : {U : Type 0} → Result (List Byte) Trap → Module → ℕ → ThreadData → ThreadData → Result U Trap → Type 0
IsStored (Err trap) m number old new result = (result ≡ Err trap) × (new ≡ old)
IsStored (Ok bytes) m number old new result = IsOk result × IsThread m new × (thread_seen m new ≡ with_frames (thread_seen m old) (put_in (old.own, number) bytes (thread_seen m old).frames))

-- a call of the function at a place from its first instruction on, which has made no block of the stack yet
abbrev pub entered : Module → ℕ → List (Option Word) → ThreadData → Frame
entered m function registers s = record {
  code = record {
    at = record { function = function; block = 0; index = 0 };
    phase = Begins;
    registers = registers_seen (register_names m function) registers;
    back = back_seen m (reverse s.frames.items);
  };
  blocks = [];
}

-- the state with a call more; for want of memory it means what it did
abbrev pub HasEntered : {U E : Type 0} → Module → ℕ → List (Option Word) → ThreadData → ThreadData → Result U E → Type 0
HasEntered m function registers old new (Ok u) = IsSeen m new (with_frames (thread_seen m old) (entered m function registers old ∷ (thread_seen m old).frames))
HasEntered m function registers old new (Err e) = IsSeen m new (thread_seen m old)

-- the state with a block more of zero bytes in the innermost call; for want of memory it means what it did
abbrev pub HasBlock : {U E : Type 0} → Module → ℕ → Frame → List Frame → ThreadData → ThreadData → Result U E → Type 0
HasBlock m size f rest old new (Ok u) = IsSeen m new (record (thread_seen m old) { counter = old.counter + 1; frames = record f { blocks = ((old.own, old.counter), replicate size (Num 0)) ∷ f.blocks } ∷ rest })
HasBlock m size f rest old new (Err e) = IsSeen m new (thread_seen m old)
