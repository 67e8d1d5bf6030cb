-- What the state of a thread in the code means: its registers by name, and its stack blocks with the calls that made them.
use Rattle.std.specs.Prelude.{◌≡◌, ◌⊎◌, ℕ, ◌+◌, ◌-◌, ◌<◌, ◌≤◌, List, [], ◌∷◌, length, map, reverse, take, drop, slice_get, Option, Some, None, IsSome, true}
use Rattle.ir_core.specs.declared.instructions.Typed.{Typed}
use Rattle.ir_core.specs.declared.instructions.Kind.{Kind}
use Rattle.ir_core.specs.declared.instructions.Kind.TheVariants.{Call}
use Rattle.ir_core.specs.declared.instructions.Inst.{Inst}
use Rattle.ir_core.specs.declared.module.Module.{Module}
use Rattle.ir_core.specs.declared.rtl.Rtl.TheVariants.{TargetInit, Parallel}
use Rattle.ir_core.specs.Places.{Name, Place, place_in, register_names, inst_at}
use Rattle.mem_model.specs.declared.memory.Byte.{Byte}
use Rattle.mem_model.specs.declared.memory.Word.{Word}
use Rattle.mem_model.specs.declared.phase.Phase.{Phase}
use Rattle.mem_model.specs.declared.phase.Phase.TheVariants.{Begins, Gathered, InRegion, HasLeft}
use Rattle.thread_state.specs.declared.state.Answers.{Answers as AnswersData}
use Rattle.thread_state.specs.declared.state.StackBlock.{StackBlock}
use Rattle.thread_state.specs.declared.state.Frame.{Frame as FrameData}
use Rattle.thread_state.specs.declared.state.ThreadState.{ThreadState as ThreadData}
use Rattle.mem_model.specs.Thread.{Registers, Code, Spot, Frame, Answers, ThreadState}
use Rattle.mem_model.specs.Next.{result_of, Callee, CallsEntry, callee_of}
use Rattle.mem_model.specs.Entries.{runs_loop}
use Rattle.shapes.specs.Facts.{is_constant}

-- ---- what a state means

abbrev pub value_or_none : Option (Option Word) → Option Word
value_or_none None = None
value_or_none (Some value) = value

abbrev pub value_at : List (Option Word) → Option ℕ → Option Word
value_at values None = None
value_at values (Some n) = value_or_none (slice_get values n)

-- a register's value stands at the place of its name among the function's registers
abbrev pub registers_seen : List Name → List (Option Word) → Registers
registers_seen names values = λ x. value_at values (place_in names x)

abbrev pub place_seen : FrameData → Place
place_seen f = record { function = f.function; block = f.block; index = f.index }

-- the result of a call goes to the register that the caller's instruction names; a fork and the runtime's own loop take none
abbrev pub back_in : Option Name → Phase → Option Name
back_in x Begins = x
back_in x _ = None

abbrev pub back_seen : Module → List FrameData → Option Name
back_seen m [] = None
back_seen m (caller ∷ outer) = back_in (result_of (inst_at m (place_seen caller))) caller.phase

abbrev pub code_seen : Module → List FrameData → FrameData → Code
code_seen m outer f = record { at = place_seen f; phase = f.phase; registers = registers_seen (register_names m f.function) f.registers; back = back_seen m outer }

abbrev pub block_seen : ℕ → StackBlock → Spot × List Byte
block_seen own b = ((own, b.number), b.bytes.items)

-- the blocks from a call's base on to the end, the newest first
abbrev pub blocks_seen : ℕ → List StackBlock → ℕ → ℕ → List (Spot × List Byte)
blocks_seen own stack base end = reverse (map (block_seen own) (take (end - base) (drop base stack)))

-- the calls, the innermost first, whose blocks end at this place of the stack
abbrev pub frames_seen : Module → ℕ → List StackBlock → ℕ → List FrameData → List Frame
frames_seen m own stack end [] = []
frames_seen m own stack end (f ∷ outer) = record { code = code_seen m outer f; blocks = blocks_seen own stack f.base end } ∷ frames_seen m own stack f.base outer

abbrev pub answers_seen : AnswersData → Answers
answers_seen a = record { init = a.init; number = a.number; count = a.count; level = a.level; spmd = a.spmd }

abbrev pub thread_seen : Module → ThreadData → ThreadState
thread_seen m s = record { own = s.own; size = s.size; enters = s.enters; counter = s.counter; frames = frames_seen m s.own s.stack.items (length s.stack.items) (reverse s.frames.items); answers = answers_seen s.answers }

-- ---- the states that stand for one

-- a call that has called another one stands at an instruction
abbrev pub StandsAtCall : Module → List FrameData → Type 0
StandsAtCall m [] = Unit {0}
StandsAtCall m (caller ∷ outer) = IsSome (inst_at m (place_seen caller))

-- an instruction that takes several steps: a fork, and an init call that begins the runtime's own loop
abbrev pub IsLong : List Typed → Callee → Type 0
IsLong operands (CallsEntry Parallel) = Unit {0}
IsLong operands (CallsEntry TargetInit) = runs_loop operands ≡ true
IsLong operands _ = ⊥

abbrev pub IsLongKind : Module → Kind → Type 0
IsLongKind m (Call tail_word ret callee operands) = IsLong operands (callee_of m callee)
IsLongKind m _ = ⊥

abbrev pub IsLongInst : Module → Option Inst → Type 0
IsLongInst m None = ⊥
IsLongInst m (Some i) = IsLongKind m i.kind

-- an init call whose mode is that of SPMD kernels
abbrev pub IsSpmdCall : List Typed → Callee → Type 0
IsSpmdCall operands (CallsEntry TargetInit) = is_constant 2 (slice_get operands 1) ≡ true
IsSpmdCall operands _ = ⊥

abbrev pub IsSpmdKind : Module → Kind → Type 0
IsSpmdKind m (Call tail_word ret callee operands) = IsSpmdCall operands (callee_of m callee)
IsSpmdKind m _ = ⊥

-- the module has a kernel in SPMD mode
abbrev pub HasSpmdKernel : Module → Type 0
HasSpmdKernel m = (p : Place) × (i : Inst) × (inst_at m p ≡ Some i) × IsSpmdKind m i.kind

-- the phases in which a thread enters a region itself
abbrev pub Occurs : Module → Phase → Type 0
Occurs m Gathered = HasSpmdKernel m
Occurs m InRegion = HasSpmdKernel m
Occurs m HasLeft = HasSpmdKernel m
Occurs m _ = Unit {0}

-- a call is in the midst of such an instruction alone
abbrev pub PhaseFits : Module → FrameData → Type 0
PhaseFits m f = (f.phase ≡ Begins) ⊎ (IsLongInst m (inst_at m (place_seen f)) × Occurs m f.phase)

-- each call has a value or none for each register, and room for as many words; the blocks of the stack below it stay below
abbrev pub AreFrames : Module → ℕ → List FrameData → Type 0
AreFrames m end [] = end ≡ 0
AreFrames m end (f ∷ outer) =
    (length f.registers ≡ length (register_names m f.function)) × (length f.room ≡ length (register_names m f.function)) × (f.base ≤ end) × (StandsAtCall m outer × PhaseFits m f) × AreFrames m f.base outer

-- the numbers of the blocks rise, and stay below how many were made
abbrev pub AreBlocks : ℕ → List StackBlock → Type 0
AreBlocks low [] = Unit {0}
AreBlocks low (b ∷ bs) = (low ≤ b.number) × AreBlocks (b.number + 1) bs

abbrev pub IsThread : Module → ThreadData → Type 0
IsThread m s =
    AreFrames m (length s.stack.items) (reverse s.frames.items) × AreBlocks 0 s.stack.items × ((i : ℕ) (b : StackBlock) → slice_get s.stack.items i ≡ Some b → b.number < s.counter)
    × (s.enters ≡ true → HasSpmdKernel m)

-- a state that stands for this one
abbrev pub IsSeen : Module → ThreadData → ThreadState → Type 0
IsSeen m s t = IsThread m s × (thread_seen m s ≡ t)

abbrev pub FirstIsLong : Module → List FrameData → Type 0
FirstIsLong m [] = Unit {0}
FirstIsLong m (f ∷ outer) = IsLongInst m (inst_at m (place_seen f))

-- the innermost call stands at an instruction that takes several steps
abbrev pub StandsAtLong : Module → ThreadData → Type 0
StandsAtLong m s = FirstIsLong m (reverse s.frames.items)
