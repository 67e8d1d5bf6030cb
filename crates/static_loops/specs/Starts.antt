-- The call that gives a thread its share of a loop, and what it makes of the thread's state.
use Rattle.std.specs.Prelude.{◌≡◌, ℕ, List, [], ◌∷◌, Result, Ok, Err, IsOk}
use Rattle.ir_core.specs.declared.module.Module.{Module}
use Rattle.mem_model.specs.declared.memory.Word.{Word}
use Rattle.mem_model.specs.declared.memory.Word.TheVariants.{Int, Ptr as Address}
use Rattle.mem_model.specs.declared.step.Trap.{Trap}
use Rattle.mem_model.specs.declared.step.Trap.TheVariants.{NotStack}
use Rattle.mem_model.specs.Eval.{signed}
use Rattle.mem_model.specs.Values.{and_then}
use Rattle.mem_model.specs.Thread.{Frame, ThreadState, Where, InStack, Elsewhere, where_is}
use Rattle.mem_model.specs.Schedules.{Turns}
use Rattle.mem_model.specs.Entries.{Slots, get_own, put_turns, in_stack}
use Rattle.mem_model.specs.Next.{NextStep, Local, Trapped, with_found, with_frames, code_past}
use Rattle.thread_state.specs.declared.state.ThreadState.{ThreadState as ThreadData}
use Rattle.thread_state.specs.Seen.{thread_seen, IsSeen}
use Rattle.static_loops.specs.declared.turns.Loop.{Loop as LoopData}
use Rattle.static_loops.specs.declared.starts.Slots.{Slots as SlotsData}
use Rattle.static_loops.specs.declared.starts.Spot.{Spot}
use Rattle.static_loops.specs.declared.starts.Spots.{Spots}

-- the words of the call's operands
abbrev pub call_words : Word → Word → ℕ → SlotsData → ℕ → ℕ → List Word
call_words place number schedule s increment chunk =
    place ∷ number ∷ Int schedule ∷ Address s.last ∷ Address s.lower ∷ Address s.upper ∷ Address s.stride ∷ Int increment ∷ Int chunk ∷ []

-- the call was made; at a trap the state means what it did
abbrev pub HasStarted : {U : Type 0} → Module → ThreadData → ThreadData → NextStep → Result U Trap → Type 0
HasStarted m old new (Local u) (Ok v) = IsSeen m new u
HasStarted m old new (Trapped x) (Err y) = (x ≡ y) × IsSeen m new (thread_seen m old)
HasStarted m old new _ _ = ⊥

-- ---- its parts: where the slots lie

abbrev pub spot_seen : Spot → Where
spot_seen s = InStack (s.thread, s.number) s.offset

abbrev pub slots_seen : SlotsData → Slots
slots_seen s = record { last = where_is s.last; lower = where_is s.lower; upper = where_is s.upper; stride = where_is s.stride }

abbrev pub spots_seen : Spots → Slots
spots_seen s = record { last = spot_seen s.last; lower = spot_seen s.lower; upper = spot_seen s.upper; stride = spot_seen s.stride }

abbrev pub spot_in : Where → Result Spot Trap
spot_in (InStack spot offset) = Ok (record { thread = spot.0; number = spot.1; offset = offset })
spot_in (Elsewhere p) = Err NotStack

-- all four lie in a stack, or that is the trap
abbrev pub AreSpots : Slots → Result Spots Trap → Type 0
AreSpots s (Ok spots) = s ≡ spots_seen spots
AreSpots s (Err trap) = (go : NextStep) → in_stack s go ≡ Trapped trap

-- ---- the loop, and the thread's turns

abbrev pub loop_in : List Frame → Slots → ℕ → Result LoopData Trap
loop_in fs s increment =
    and_then (get_own fs s.lower) (λ lower. and_then (get_own fs s.upper) (λ upper. Ok (record { lower = signed 32 lower; upper = signed 32 upper; increment = signed 32 increment })))

-- the state with these calls, or the trap and a state that means what it did
abbrev pub IsPut : {U : Type 0} → Module → ThreadData → ThreadData → Result (List Frame) Trap → Result U Trap → Type 0
IsPut m old new (Ok fs) result = IsOk result × IsSeen m new (with_frames (thread_seen m old) fs)
IsPut m old new (Err trap) result = (result ≡ Err trap) × IsSeen m new (thread_seen m old)

-- the state with these calls, where all is stored
abbrev pub IsPutWhere : {U : Type 0} → Module → ThreadData → ThreadData → Result (List Frame) Trap → Result U Trap → Type 0
IsPutWhere m old new (Ok fs) result = IsOk result × IsSeen m new (with_frames (thread_seen m old) fs)
IsPutWhere m old new (Err trap) result = Unit {0}

-- the turns are stored, and the innermost call goes past its instruction
abbrev pub puts_share : ThreadState → Frame → List Frame → Slots → Turns → NextStep
puts_share t f rest s share = with_found (put_turns s share (record f { code = code_past f.code } ∷ rest)) (λ fs. Local (with_frames t fs))
