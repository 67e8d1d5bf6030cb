-- What a thread does next: one function for every meaning, which differ in what the thread's state answers alone
-- (LLVM Language Reference, "Instruction Reference").
use Rattle.std.specs.Prelude.{ℕ, ◌+◌, List, [], ◌∷◌, length, replicate, slice_get, Option, Some, None, Result, Ok, Err, Bool, false, ◌==◌, nat_le, pos, if◌then◌else◌}
use Rattle.ir_core.specs.declared.instructions.Value.{Value}
use Rattle.ir_core.specs.declared.instructions.Value.TheVariants.{Int as IntValue, Global as GlobalValue}
use Rattle.ir_core.specs.declared.instructions.Typed.{Typed}
use Rattle.ir_core.specs.declared.instructions.Case.{Case}
use Rattle.ir_core.specs.declared.instructions.RmwOp.{RmwOp}
use Rattle.ir_core.specs.declared.instructions.Kind.{Kind}
use Rattle.ir_core.specs.declared.instructions.Kind.TheVariants.{Bin, ICmp, Cast, Select, Phi, Alloca, Load as LoadInst, Store as StoreInst, Rmw, Gep, Fence, Call, Br, CondBr, Switch, Ret, Unreachable as UnreachableInst}
use Rattle.ir_core.specs.declared.instructions.Inst.{Inst}
use Rattle.ir_core.specs.declared.module.Module.{Module}
use Rattle.ir_core.specs.declared.module.Function.{Function}
use Rattle.ir_core.specs.declared.module.Block.{Block}
use Rattle.ir_core.specs.declared.module.Param.{Param}
use Rattle.ir_core.specs.declared.rtl.Rtl.{Rtl}
use Rattle.ir_core.specs.Layout.{Size, Offset}
use Rattle.mem_model.specs.declared.memory.BlockName.TheVariants.{Stack}
use Rattle.mem_model.specs.declared.memory.Ptr.TheVariants.{At}
use Rattle.mem_model.specs.declared.memory.Byte.TheVariants.{Num}
use Rattle.mem_model.specs.declared.memory.Word.{Word}
use Rattle.mem_model.specs.declared.memory.Word.TheVariants.{Int, Ptr as Address}
use Rattle.mem_model.specs.declared.memory.Cell.{Cell}
use Rattle.mem_model.specs.declared.memory.Cell.TheVariants.{Int as IntCell}
use Rattle.mem_model.specs.declared.step.Barrier.TheVariants.{Team, Join}
use Rattle.mem_model.specs.declared.step.Trap.{Trap}
use Rattle.mem_model.specs.declared.step.Trap.TheVariants.{Unreachable, TooLarge}
use Rattle.mem_model.specs.Memory.{block_limit}
use Rattle.mem_model.specs.Eval.{Eval, compared}
use Rattle.mem_model.specs.declared.phase.Phase.{Phase}
use Rattle.mem_model.specs.declared.phase.LoopPoint.TheVariants.{HasWorked}
use Rattle.mem_model.specs.declared.phase.Phase.TheVariants.{Begins, Published, Woken, Gathered, InRegion, HasLeft, Loops}
use Rattle.mem_model.specs.Thread.{Name, Place, Registers, Frame, ThreadState, Where, InStack, Elsewhere, where_is, given_of, assigned, bound, find_in, put_in, load_own, store_own, outside_region}
use Rattle.ir_core.specs.Places.{inst_at, labels, label_at, place_in, function_place, PhiNode, phis_at, edge_from}
use Rattle.mem_model.specs.Values.{cell_of, width_of, value_word, operand, and_then, operand_words, converted, path_of, moved, updated}
pub use Rattle.mem_model.specs.Steps.{Action, Loads, Stores, Updates, Prints, Makes, Releases, Event, Does, Deinit, Forks, Arrives, AsksForWork, Leaves, NextStep, Local, Pending, Done, Trapped, with_found, with_number, with_pointer, with_result, with_scalar, next_place, code_on, code_past, with_frames, goes_on, goes_past, in_phase, goes_in, result_of, resumed_frames, resumed, arrived_frames, arrived, line_of, frames_line, line_at}
use Rattle.mem_model.specs.Regions.{Fork, fork_of, words_operand, captured, words_formed, in_region}
pub use Rattle.mem_model.specs.Entries.{entry_of}
use Rattle.mem_model.specs.Entries.{next_entry}
use Rattle.mem_model.specs.Work.{next_loop}

-- ---- branches: all phis of the target are assigned at once, in the same step

abbrev pub phi_word : Module → Registers → Option Value → Result Word Trap
phi_word m r None = Err Unreachable
phi_word m r (Some v) = value_word m r v

-- the registers with the phis' results, of which each takes the operand of the edge, read in the registers before the branch
abbrev pub with_phis : Module → Registers → Name → List PhiNode → Registers → Result Registers Trap
with_phis m before from [] r = Ok r
with_phis m before from (p ∷ ps) r = and_then (phi_word m before (edge_from p.edges from)) (λ word. with_phis m before from ps (assigned r p.result word))

abbrev pub enters : ThreadState → Frame → List Frame → Place → Registers → NextStep
enters t f rest at r = Local (with_frames t (record f { code = record f.code { at = at; phase = Begins; registers = r } } ∷ rest))

abbrev pub to_block : Module → ThreadState → Frame → List Frame → Option ℕ → NextStep
to_block m t f rest None = Trapped Unreachable
to_block m t f rest (Some b) =
    with_found (with_phis m f.code.registers (label_at m f.code.at) (phis_at m f.code.at.function b) f.code.registers)
    (enters t f rest (record { function = f.code.at.function; block = b; index = length (phis_at m f.code.at.function b) }))

abbrev pub to_label : Module → ThreadState → Frame → List Frame → Name → NextStep
to_label m t f rest x = to_block m t f rest (place_in (labels m f.code.at.function) x)

-- the block of the first case of this value, or the other one
abbrev pub is_case : ℕ → Value → Bool
is_case n (IntValue k) = n == k
is_case n _ = false

abbrev pub case_for : ℕ → Name → List Case → Name
case_for n other [] = other
case_for n other (c ∷ cs) = if is_case n c.value.value then c.block else case_for n other cs

-- ---- accesses: one to a stack block is the thread's own, every other one is an event

abbrev pub loads : ThreadState → Frame → List Frame → Option Name → Cell → Where → NextStep
loads t f rest x cell (InStack spot offset) = with_found (load_own (find_in (f ∷ rest) spot) offset cell) (λ word. Local (goes_on t f rest x word))
loads t f rest x cell (Elsewhere p) = Pending (Does (Loads p cell))

abbrev pub stores : ThreadState → Frame → List Frame → Cell → Word → Where → NextStep
stores t f rest cell word (InStack spot offset) = with_found (store_own (find_in (f ∷ rest) spot) offset cell word) (λ bytes. Local (with_frames t (put_in spot bytes (record f { code = code_past f.code } ∷ rest))))
stores t f rest cell word (Elsewhere p) = Pending (Does (Stores p cell (given_of word)))

abbrev pub updates : ThreadState → Frame → List Frame → Option Name → ℕ → RmwOp → ℕ → Where → NextStep
updates t f rest x width op n (InStack spot offset) =
    with_found (load_own (find_in (f ∷ rest) spot) offset (IntCell width)) (λ word. with_number word (λ old.
    with_found (store_own (find_in (f ∷ rest) spot) offset (IntCell width) (Int (updated op width old n))) (λ bytes.
    Local (with_frames t (put_in spot bytes (record f { code = code_on f.code x word } ∷ rest))))))
updates t f rest x width op n (Elsewhere p) = Pending (Does (Updates p width op n))

-- a new block of the thread's stack, of zero bytes, which ends when the function returns
abbrev pub allocates : ThreadState → Frame → List Frame → Option Name → ℕ → NextStep
allocates t f rest x size =
    if nat_le size block_limit then Local (record t {
      counter = t.counter + 1;
      frames = record { code = code_on f.code x (Address (At (Stack t.own t.counter) (pos 0))); blocks = ((t.own, t.counter), replicate size (Num 0)) ∷ f.blocks } ∷ rest;
    }) else Trapped TooLarge

-- ---- calls and returns

pub data Callee : Type 0 where
  CallsEntry : Rtl → Callee
  CallsFunction : ℕ → List Param → Callee
  CallsOther : Callee

abbrev pub with_body : ℕ → List Param → List Block → Callee
with_body k params [] = CallsOther
with_body k params (b ∷ bs) = CallsFunction k params

abbrev pub defined_as : ℕ → Option Function → Callee
defined_as k None = CallsOther
defined_as k (Some f) = with_body k f.params f.blocks

abbrev pub defined_at : Module → Option ℕ → Callee
defined_at m None = CallsOther
defined_at m (Some k) = defined_as k (slice_get m.functions k)

abbrev pub entry_or : Option Rtl → Callee → Callee
entry_or None other = other
entry_or (Some r) other = CallsEntry r

abbrev pub callee_of : Module → Value → Callee
callee_of m (GlobalValue x) = entry_or (entry_of x) (defined_at m (function_place m x))
callee_of m _ = CallsOther

-- a call that begins at its function's first block, and gives its result to the caller's register
abbrev pub called : ℕ → List Param → List Word → Option Name → Frame
called k params words x = record { code = record { at = record { function = k; block = 0; index = 0 }; phase = Begins; registers = bound params words; back = x }; blocks = [] }

abbrev pub next_call : Module → ThreadState → Frame → List Frame → Option Name → List Typed → Callee → NextStep
next_call m t f rest x operands (CallsEntry r) = next_entry m t f rest x operands r
next_call m t f rest x operands (CallsFunction k params) = with_found (operand_words m f.code.registers operands) (λ words. Local (with_frames t (called k params words x ∷ f ∷ rest)))
next_call m t f rest x operands CallsOther = Trapped Unreachable

abbrev pub goes_back : ThreadState → Frame → List Frame → Option Name → Option Word → ThreadState
goes_back t f rest back None = goes_past t f rest
goes_back t f rest back (Some word) = goes_on t f rest back word

-- a fork of an SPMD kernel and the runtime's own loop are not done with the return; every other call is
abbrev pub back_in : Phase → ThreadState → Frame → List Frame → Option Name → Option Word → ThreadState
back_in InRegion t f rest back word = record (goes_in t f rest HasLeft) { answers = outside_region t }
back_in (Loops point) t f rest back word = goes_in t f rest (Loops HasWorked)
back_in _ t f rest back word = goes_back t f rest back word

-- the caller goes on with the result or without one; the return from a thread's first call ends the thread
abbrev pub returns : ThreadState → List Frame → Option Name → Option Word → NextStep
returns t [] back word = Pending Leaves
returns t (f ∷ rest) back word = Local (back_in f.code.phase t f rest back word)

-- ---- the instructions

abbrev pub next_kind : Module → ThreadState → Frame → List Frame → Option Name → Kind → NextStep
next_kind m t f rest x (Bin op flags ty a b) =
    with_found (operand m f.code.registers ty a) (λ v. with_number v (λ i. with_found (operand m f.code.registers ty b) (λ w. with_number w (λ j.
    with_found (Eval op flags (width_of ty) i j) (λ n. Local (goes_on t f rest x (Int n)))))))
next_kind m t f rest x (ICmp pred ty a b) =
    with_found (operand m f.code.registers ty a) (λ v. with_found (operand m f.code.registers ty b) (λ w.
    with_result (compared pred (width_of ty) v w) (λ n. Local (goes_on t f rest x (Int n)))))
next_kind m t f rest x (Cast op from to) =
    with_found (operand m f.code.registers from.ty from.value) (λ v. with_scalar to (with_found (converted op (width_of from.ty) (width_of to) v) (λ w. Local (goes_on t f rest x w))))
next_kind m t f rest x (Select c a b) =
    with_found (operand m f.code.registers c.ty c.value) (λ v. with_number v (λ n.
    with_found (operand m f.code.registers a.ty a.value) (λ then_word. with_found (operand m f.code.registers b.ty b.value) (λ else_word.
    Local (goes_on t f rest x (if n == 0 then else_word else then_word))))))
next_kind m t f rest x (Phi ty edges) = Trapped Unreachable
next_kind m t f rest x (Alloca ty align) = allocates t f rest x (Size m.types ty)
next_kind m t f rest x (LoadInst ty at order align) =
    with_found (operand m f.code.registers at.ty at.value) (λ v. with_pointer v (λ p. with_scalar ty (loads t f rest x (cell_of ty) (where_is p))))
next_kind m t f rest x (StoreInst value at order align) =
    with_found (operand m f.code.registers value.ty value.value) (λ word. with_found (operand m f.code.registers at.ty at.value) (λ v. with_pointer v (λ p. stores t f rest (cell_of value.ty) word (where_is p))))
next_kind m t f rest x (Rmw op at value order align) =
    with_found (operand m f.code.registers at.ty at.value) (λ v. with_pointer v (λ p. with_found (operand m f.code.registers value.ty value.value) (λ w. with_number w (λ n.
    updates t f rest x (width_of value.ty) op n (where_is p)))))
next_kind m t f rest x (Gep inbounds ty base path) =
    with_found (operand m f.code.registers base.ty base.value) (λ v. with_pointer v (λ p. with_found (path_of m f.code.registers path) (λ indices.
    with_result (Offset m.types ty indices) (λ offset. Local (goes_on t f rest x (Address (moved p offset)))))))
next_kind m t f rest x (Fence order) = Local (goes_past t f rest)
next_kind m t f rest x (Call tail_word ret callee operands) = next_call m t f rest x operands (callee_of m callee)
next_kind m t f rest x (Br to) = to_label m t f rest to
next_kind m t f rest x (CondBr c then_to else_to) =
    with_found (operand m f.code.registers c.ty c.value) (λ v. with_number v (λ n. to_label m t f rest (if n == 0 then else_to else then_to)))
next_kind m t f rest x (Switch on other cases) =
    with_found (operand m f.code.registers on.ty on.value) (λ v. with_number v (λ n. to_label m t f rest (case_for n other cases)))
next_kind m t f rest x (Ret None) = returns t rest f.code.back None
next_kind m t f rest x (Ret (Some v)) = with_found (value_word m f.code.registers v.value) (λ word. returns t rest f.code.back (Some word))
next_kind m t f rest x UnreachableInst = Trapped Unreachable

abbrev pub next_inst : Module → ThreadState → Frame → List Frame → Option Inst → NextStep
next_inst m t f rest None = Trapped Unreachable
next_inst m t f rest (Some i) = next_kind m t f rest i.result i.kind

-- ---- forks of SPMD kernels

-- the words are read, and the region function begins
abbrev pub enters_region : Module → ThreadState → Frame → List Frame → List Word → Fork → NextStep
enters_region m t f rest words fork =
    with_found (captured (f ∷ rest) (words_operand words) fork.count) (λ ps. with_found (words_formed m fork.wrapper ps) (λ ws. Local (in_region m t (in_phase InRegion f ∷ rest) fork.function ws)))

abbrev pub enters_kind : Module → ThreadState → Frame → List Frame → Kind → NextStep
enters_kind m t f rest (Call tail_word ret callee operands) =
    with_found (operand_words m f.code.registers operands) (λ words. with_result (fork_of m operands) (enters_region m t f rest words))
enters_kind m t f rest _ = Trapped Unreachable

abbrev pub enters_at : Module → ThreadState → Frame → List Frame → Option Inst → NextStep
enters_at m t f rest None = Trapped Unreachable
enters_at m t f rest (Some i) = enters_kind m t f rest i.kind

-- ---- one step

-- the main thread of a generic kernel wakes the workers for a fork and waits for them; a thread of an SPMD kernel enters the region
abbrev pub next_in : Module → ThreadState → Frame → List Frame → Option Inst → Phase → NextStep
next_in m t f rest i Begins = next_inst m t f rest i
next_in m t f rest i Published = Pending (Arrives Team (Some Woken))
next_in m t f rest i Woken = Pending (Arrives Team None)
next_in m t f rest i Gathered = enters_at m t f rest i
next_in m t f rest i InRegion = Trapped Unreachable
next_in m t f rest i HasLeft = Pending (Arrives Join None)
next_in m t f rest i (Loops point) = next_loop m t f rest (result_of i) point

abbrev pub next_frames : Module → ThreadState → List Frame → NextStep
next_frames m t [] = Done
next_frames m t (f ∷ rest) = next_in m t f rest (inst_at m f.code.at) f.code.phase

-- what a thread does next
abbrev pub Next : Module → ThreadState → NextStep
Next m t = next_frames m t t.frames
