-- Laws of a thread's next step: what each instruction that reads or changes more than one thing does with it.
use Rattle.std.specs.Prelude.{◌≡◌, ℕ, ◌≤◌, ℤ, pos, List, [], ◌∷◌, ◌++◌, All, replicate, true, false, Option, Some, None, Ok, Err}
use Rattle.std.specs.FinMap as fin
use Rattle.ir_core.specs.declared.types.Ty.{Ty}
use Rattle.ir_core.specs.declared.instructions.Value.{Value}
use Rattle.ir_core.specs.declared.instructions.Value.TheVariants.{Int as IntValue, Local as Register}
use Rattle.ir_core.specs.declared.instructions.Typed.{Typed}
use Rattle.ir_core.specs.declared.instructions.Edge.{Edge}
use Rattle.ir_core.specs.declared.instructions.Case.{Case}
use Rattle.ir_core.specs.declared.instructions.TailWord.{TailWord}
use Rattle.ir_core.specs.declared.instructions.Kind.{Kind}
use Rattle.ir_core.specs.declared.instructions.Kind.TheVariants.{Alloca, Call, Br, Switch, Ret}
use Rattle.ir_core.specs.declared.module.Module.{Module}
use Rattle.ir_core.specs.declared.module.Param.{Param}
use Rattle.ir_core.specs.Layout.{Size}
use Rattle.mem_model.specs.declared.memory.BlockName.{BlockName}
use Rattle.mem_model.specs.declared.memory.BlockName.TheVariants.{Stack}
use Rattle.mem_model.specs.declared.memory.Ptr.{Ptr}
use Rattle.mem_model.specs.declared.memory.Ptr.TheVariants.{At}
use Rattle.mem_model.specs.declared.memory.Byte.TheVariants.{Num}
use Rattle.mem_model.specs.declared.memory.Word.{Word}
use Rattle.mem_model.specs.declared.memory.Word.TheVariants.{Int, Ptr as Address}
use Rattle.mem_model.specs.declared.memory.Cell.{Cell}
use Rattle.mem_model.specs.declared.launch.Launch.{Launch}
use Rattle.mem_model.specs.declared.step.Trap.TheVariants.{Constant}
use Rattle.mem_model.specs.Words.{cell_size}
use Rattle.mem_model.specs.MemoryLaws.{Lies}
use Rattle.mem_model.specs.Memory.{Memory, Header, Shares, Load, Store, block_limit}
use Rattle.mem_model.specs.declared.phase.Phase.{Phase}
use Rattle.mem_model.specs.declared.phase.Phase.TheVariants.{Begins}
use Rattle.mem_model.specs.Thread.{Name, Registers, Answers, Frame, ThreadState, Spot, bound, find_in}
use Rattle.ir_core.specs.Places.{inst_at, labels, label_at, place_in, phis_at, edge_from}
use Rattle.mem_model.specs.Values.{value_word, operand, operand_words}
use Rattle.mem_model.specs.Update.{Updated, Update}
use Rattle.mem_model.specs.Regions.{in_region}
use Rattle.mem_model.specs.Work.{given_work}
use Rattle.mem_model.specs.Launching.{Role, first_thread}
use Rattle.mem_model.specs.Next.{Local, Pending, Leaves, with_frames, goes_on, to_label, CallsFunction, callee_of, called, Next, resumed, arrived}

-- the thread's innermost call is f, over the others, and begins an instruction of this kind
pub record StandsAt (m : Module) (t : ThreadState) (f : Frame) (rest : List Frame) (result : Option Name) (kind : Kind) : Type 0 where
  pub line : ℕ
  pub calls : t.frames ≡ f ∷ rest
  pub begins : f.code.phase ≡ Begins
  pub inst : inst_at m f.code.at ≡ Some (record { result = result; kind = kind; line = line })

-- ---- branches

-- two phis of which each takes the other's register, in a branch to their block: each gets the word from before
abbrev pub PhisSwap : Type 0
PhisSwap =
    (m : Module) (t : ThreadState) (f : Frame) (rest : List Frame) (result : Option Name) (to : Name) (b : ℕ) (x y : Name) (xs ys : List Edge) (v w : Word) → StandsAt m t f rest result (Br to) → place_in (labels m f.code.at.function) to ≡ Some b →
    phis_at m f.code.at.function b ≡ record { result = Some x; edges = xs } ∷ record { result = Some y; edges = ys } ∷ [] → edge_from xs (label_at m f.code.at) ≡ Some (Register y) → edge_from ys (label_at m f.code.at) ≡ Some (Register x) →
    (x ≡ y → ⊥) → f.code.registers x ≡ Some v → f.code.registers y ≡ Some w →
    (r : Registers) × (Next m t ≡ Local (with_frames t (record f { code = record f.code { at = record { function = f.code.at.function; block = b; index = 2 }; phase = Begins; registers = r } } ∷ rest))) × (r x ≡ Some w) × (r y ≡ Some v)

-- the case is of another number
abbrev pub IsNot : ℕ → Case → Type 0
IsNot n c = c.value.value ≡ IntValue n → ⊥

-- a switch goes to the block of the first case of its number, whatever cases stand behind it
abbrev pub SwitchFirst : Type 0
SwitchFirst =
    (m : Module) (t : ThreadState) (f : Frame) (rest : List Frame) (result : Option Name) (on : Typed) (other : Name) (before behind : List Case) (c : Case) (n : ℕ) → StandsAt m t f rest result (Switch on other (before ++ c ∷ behind)) →
    operand m f.code.registers on.ty on.value ≡ Ok (Int n) → All (IsNot n) before → c.value.value ≡ IntValue n → Next m t ≡ to_label m t f rest c.block

-- and to its other block where no case is of the number
abbrev pub SwitchOther : Type 0
SwitchOther =
    (m : Module) (t : ThreadState) (f : Frame) (rest : List Frame) (result : Option Name) (on : Typed) (other : Name) (cases : List Case) (n : ℕ) → StandsAt m t f rest result (Switch on other cases) →
    operand m f.code.registers on.ty on.value ≡ Ok (Int n) → All (IsNot n) cases → Next m t ≡ to_label m t f rest other

-- ---- calls and returns

-- a call of a defined function begins at its first block, with the operands' words in its parameters and the caller below it
abbrev pub CallBegins : Type 0
CallBegins =
    (m : Module) (t : ThreadState) (f : Frame) (rest : List Frame) (result : Option Name) (tail_word : TailWord) (ret : Ty) (callee : Value) (operands : List Typed) (k : ℕ) (params : List Param) (words : List Word) →
    StandsAt m t f rest result (Call tail_word ret callee operands) → callee_of m callee ≡ CallsFunction k params → operand_words m f.code.registers operands ≡ Ok words →
    Next m t ≡ Local (with_frames t (called k params words result ∷ f ∷ rest))

-- a return to a call brings the caller behind it with the word in the register that takes it, and ends the callee's stack blocks
abbrev pub ReturnGoesBack : Type 0
ReturnGoesBack =
    (m : Module) (t : ThreadState) (g f : Frame) (rest : List Frame) (result : Option Name) (v : Typed) (word : Word) → StandsAt m t g (f ∷ rest) result (Ret (Some v)) → f.code.phase ≡ Begins → value_word m g.code.registers v.value ≡ Ok word →
    Next m t ≡ Local (goes_on t f rest g.code.back word)

-- a call of a function that returns at once, and its return: the caller goes on behind the call with the result
abbrev pub CallReturns : Type 0
CallReturns =
    (m : Module) (t u : ThreadState) (f : Frame) (rest : List Frame) (result of_return : Option Name) (tail_word : TailWord) (ret : Ty) (callee : Value) (operands : List Typed) (k : ℕ) (params : List Param) (words : List Word) (v : Typed) (word : Word) →
    StandsAt m t f rest result (Call tail_word ret callee operands) → callee_of m callee ≡ CallsFunction k params → operand_words m f.code.registers operands ≡ Ok words → Next m t ≡ Local u →
    StandsAt m u (called k params words result) (f ∷ rest) of_return (Ret (Some v)) → value_word m (bound params words) v.value ≡ Ok word → Next m u ≡ Local (goes_on t f rest result word)

-- the return from a thread's only call ends the thread
abbrev pub ReturnLeaves : Type 0
ReturnLeaves = (m : Module) (t : ThreadState) (f : Frame) (result : Option Name) → StandsAt m t f [] result (Ret None) → Next m t ≡ Pending Leaves

-- ---- stack blocks

-- the name of the next block of the thread's stack
abbrev pub next_spot : ThreadState → Spot
next_spot t = (t.own, t.counter)

-- an alloca makes a block of zero bytes, and its register is the block's beginning
abbrev pub AllocaMakes : Type 0
AllocaMakes =
    (m : Module) (t : ThreadState) (f : Frame) (rest : List Frame) (x : Name) (ty : Ty) (align : ℕ) → StandsAt m t f rest (Some x) (Alloca ty align) → Size m.types ty ≤ block_limit →
    (u : ThreadState) × (g : Frame) × (Next m t ≡ Local u) × (u.frames ≡ g ∷ rest) × (g.code.registers x ≡ Some (Address (At (Stack t.own t.counter) (pos 0)))) × (find_in u.frames (next_spot t) ≡ Some (replicate (Size m.types ty) (Num 0)))

-- no call has a block of a name that the thread hasn't made yet
abbrev pub HasNoNewer : ThreadState → Type 0
HasNoNewer t = (n : ℕ) → t.counter ≤ n → find_in t.frames (t.own, n) ≡ None

-- a thread begins so
abbrev pub FirstThreadIsNew : Type 0
FirstThreadIsNew = (m : Module) (l : Launch) (role : Role) (answers : Answers) → HasNoNewer (first_thread m l role answers)

-- and it stays with each step of the thread, behind each event, arrival and answer to a question for work, and where the source's fork
-- begins a region: a name is never used again
pub record StaysNew (m : Module) (t : ThreadState) : Type 0 where
  pub steps : (u : ThreadState) → Next m t ≡ Local u → HasNoNewer u
  pub events : (answer : Option Word) → HasNoNewer (resumed m t answer)
  pub arrivals : (phase : Option Phase) → HasNoNewer (arrived t phase)
  pub work : (wrapper : Option ℕ) (u : ThreadState) → given_work m t wrapper ≡ Ok u → HasNoNewer u
  pub regions : (function : ℕ) (words : List Word) → HasNoNewer (in_region m t [] function words)

abbrev pub NamesAreNew : Type 0
NamesAreNew = (m : Module) (t : ThreadState) → HasNoNewer t → StaysNew m t

-- a block that no call below has is gone behind the function's return
abbrev pub AllocaEnds : Type 0
AllocaEnds =
    (m : Module) (t u : ThreadState) (g f : Frame) (rest : List Frame) (result : Option Name) (value : Option Typed) (spot : Spot) → StandsAt m t g (f ∷ rest) result (Ret value) → find_in (f ∷ rest) spot ≡ None → Next m t ≡ Local u → find_in u.frames spot ≡ None

-- ---- atomic changes

-- an update is a load and a store of the changed number
abbrev pub UpdateInOne : Type 0
UpdateInOne =
    (m : Memory) (p : Ptr) (cell : Cell) (change : ℕ → ℕ) (u : Updated) → Update m p cell change ≡ Ok u → (Load m p cell ≡ Ok (Int u.old)) × (Store m p cell (Shares (Int (change u.old))) ≡ Ok u.memory)

-- an update of a constant traps as a store there, whatever the constant holds
abbrev pub UpdateOfConstant : Type 0
UpdateOfConstant =
    (m : Memory) (block : BlockName) (offset : ℤ) (cell : Cell) (change : ℕ → ℕ) (header : Header) → fin.get m.blocks block ≡ Some header → header.released ≡ false → Lies header.size offset (cell_size cell) → header.constant ≡ true → Update m (At block offset) cell change ≡ Err Constant
