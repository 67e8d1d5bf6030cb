-- Steps of a thread: what the next one can be, and how the thread goes on behind an instruction.
use Rattle.std.specs.Prelude.{ℕ, ◌+◌, List, [], ◌∷◌, Option, Some, None, Result, Ok, Err, if◌then◌else◌}
use Rattle.ir_core.specs.declared.types.Ty.{Ty}
use Rattle.ir_core.specs.declared.instructions.RmwOp.{RmwOp}
use Rattle.ir_core.specs.declared.instructions.Inst.{Inst}
use Rattle.ir_core.specs.declared.module.Module.{Module}
use Rattle.ir_core.specs.FirstForm.{is_scalar}
use Rattle.ir_core.specs.Places.{inst_at}
use Rattle.mem_model.specs.declared.memory.Ptr.{Ptr}
use Rattle.mem_model.specs.declared.memory.Word.{Word}
use Rattle.mem_model.specs.declared.memory.Word.TheVariants.{Int, Ptr as Address}
use Rattle.mem_model.specs.declared.memory.Cell.{Cell}
use Rattle.mem_model.specs.declared.step.Barrier.{Barrier}
use Rattle.mem_model.specs.declared.step.Trap.{Trap}
use Rattle.mem_model.specs.declared.step.Trap.TheVariants.{Unreachable}
use Rattle.mem_model.specs.Memory.{Given}
use Rattle.mem_model.specs.declared.phase.Phase.{Phase}
use Rattle.mem_model.specs.declared.phase.Phase.TheVariants.{Begins}
use Rattle.mem_model.specs.Thread.{Name, Place, Code, Frame, ThreadState, assigned}

-- ---- events: what a thread does to what it shares with others

-- an action on shared memory or on the printed values; an atomic access is an action as a plain one is
pub data Action : Type 0 where
  Loads : (at : Ptr) (cell : Cell) → Action
  Stores : (at : Ptr) (cell : Cell) (given : Given) → Action
  Updates : (at : Ptr) (width : ℕ) (op : RmwOp) (n : ℕ) → Action
  Prints : (n : ℕ) → Action
  Makes : (size : ℕ) → Action
  Releases : (at : Ptr) (size : ℕ) → Action

-- an action; a call of __kmpc_target_deinit; a fork of the region function at one place by the wrapper at another, with the captured words;
-- an arrival at a barrier, behind which the thread goes past its instruction, or stands in it in a further phase; a question for the
-- published work; or the end of the thread
pub data Event : Type 0 where
  Does : Action → Event
  Deinit : Event
  Forks : (function wrapper : ℕ) (words : List Ptr) → Event
  Arrives : Barrier → Option Phase → Event
  AsksForWork : Event
  Leaves : Event

-- a step of its own, a pending event, the end of the thread, or a trap
pub data NextStep : Type 0 where
  Local : ThreadState → NextStep
  Pending : Event → NextStep
  Done : NextStep
  Trapped : Trap → NextStep

-- goes on with what was found, or traps
abbrev pub with_found : {A : Type 0} → Result A Trap → (A → NextStep) → NextStep
with_found (Err e) go = Trapped e
with_found (Ok x) go = go x

-- an operand of another kind, and an operation without a meaning, are in no checked module
abbrev pub with_number : Word → (ℕ → NextStep) → NextStep
with_number (Int n) go = go n
with_number (Address p) go = Trapped Unreachable

abbrev pub with_pointer : Word → (Ptr → NextStep) → NextStep
with_pointer (Int n) go = Trapped Unreachable
with_pointer (Address p) go = go p

abbrev pub with_result : {A : Type 0} → Option A → (A → NextStep) → NextStep
with_result None go = Trapped Unreachable
with_result (Some n) go = go n

-- no checked module loads another type or converts to one
abbrev pub with_scalar : Ty → NextStep → NextStep
with_scalar ty go = if is_scalar ty then go else Trapped Unreachable

-- ---- how a thread goes on

abbrev pub next_place : Place → Place
next_place p = record p { index = p.index + 1 }

-- behind the instruction, with its result or with none
abbrev pub code_on : Code → Option Name → Word → Code
code_on c x word = record c { at = next_place c.at; phase = Begins; registers = assigned c.registers x word }

abbrev pub code_past : Code → Code
code_past c = record c { at = next_place c.at; phase = Begins }

abbrev pub with_frames : ThreadState → List Frame → ThreadState
with_frames t fs = record t { frames = fs }

abbrev pub goes_on : ThreadState → Frame → List Frame → Option Name → Word → ThreadState
goes_on t f rest x word = with_frames t (record f { code = code_on f.code x word } ∷ rest)

abbrev pub goes_past : ThreadState → Frame → List Frame → ThreadState
goes_past t f rest = with_frames t (record f { code = code_past f.code } ∷ rest)

-- the call stands at the same instruction in another phase
abbrev pub in_phase : Phase → Frame → Frame
in_phase phase f = record f { code = record f.code { phase = phase } }

abbrev pub goes_in : ThreadState → Frame → List Frame → Phase → ThreadState
goes_in t f rest phase = with_frames t (in_phase phase f ∷ rest)

-- ---- behind an event

abbrev pub result_of : Option Inst → Option Name
result_of None = None
result_of (Some i) = i.result

-- goes on behind the event with the word that answers it, where one does
abbrev pub resumed_frames : Module → ThreadState → List Frame → Option Word → ThreadState
resumed_frames m t [] answer = t
resumed_frames m t (f ∷ rest) None = goes_past t f rest
resumed_frames m t (f ∷ rest) (Some word) = goes_on t f rest (result_of (inst_at m f.code.at)) word

abbrev pub resumed : Module → ThreadState → Option Word → ThreadState
resumed m t answer = resumed_frames m t t.frames answer

abbrev pub arrived_frames : ThreadState → List Frame → Option Phase → ThreadState
arrived_frames t [] phase = t
arrived_frames t (f ∷ rest) None = goes_past t f rest
arrived_frames t (f ∷ rest) (Some phase) = goes_in t f rest phase

-- behind an arrival at a barrier, and behind a publication
abbrev pub arrived : ThreadState → Option Phase → ThreadState
arrived t phase = arrived_frames t t.frames phase

-- ---- where a thread stands

abbrev pub line_of : Option Inst → ℕ
line_of None = 0
line_of (Some i) = i.line

abbrev pub frames_line : Module → List Frame → ℕ
frames_line m [] = 0
frames_line m (f ∷ rest) = line_of (inst_at m f.code.at)

-- the line of the instruction whose step is next
abbrev pub line_at : Module → ThreadState → ℕ
line_at m t = frames_line m t.frames
