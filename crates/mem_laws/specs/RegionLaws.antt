-- Laws of regions: what the definitions of forks, barriers and region functions say where a reader would look first.
use Rattle.std.specs.Prelude.{◌≡◌, ℕ, suc, ◌+◌, ◌*◌, ◌^◌, ◌<◌, ℤ, pos, ◌+ℤ◌, List, [], ◌∷◌, ◌++◌, true, false, Option, Some, None, Ok, Err, if◌then◌else◌}
use Rattle.ir_core.specs.declared.types.Ty.{Ty}
use Rattle.ir_core.specs.declared.instructions.Value.{Value}
use Rattle.ir_core.specs.declared.instructions.Typed.{Typed}
use Rattle.ir_core.specs.declared.instructions.TailWord.{TailWord}
use Rattle.ir_core.specs.declared.instructions.Kind.TheVariants.{Call, Ret}
use Rattle.ir_core.specs.declared.module.Module.{Module}
use Rattle.ir_core.specs.declared.rtl.Rtl.TheVariants.{Parallel, Barrier as RegionBarrier}
use Rattle.ir_core.specs.Places.{inst_at}
use Rattle.shapes.specs.Walk.{Form, Bits}
use Rattle.mem_model.specs.declared.memory.BlockName.{BlockName}
use Rattle.mem_model.specs.declared.memory.Ptr.{Ptr}
use Rattle.mem_model.specs.declared.memory.Ptr.TheVariants.{At}
use Rattle.mem_model.specs.declared.memory.Word.{Word}
use Rattle.mem_model.specs.declared.memory.Word.TheVariants.{Int, Ptr as Address}
use Rattle.mem_model.specs.declared.memory.Cell.TheVariants.{Int as IntCell, Ptr as PtrCell}
use Rattle.mem_model.specs.declared.phase.Phase.TheVariants.{Begins, Gathered, InRegion, HasLeft}
use Rattle.mem_model.specs.declared.step.Trap.TheVariants.{NotStack, StackLeak, NotNumber}
use Rattle.mem_model.specs.Thread.{Name, Frame, ThreadState, Spot, InStack, Elsewhere, where_is, find_in, load_own, outside_region}
use Rattle.mem_model.specs.Values.{operand_words}
use Rattle.mem_model.specs.Regions.{Fork, fork_of, words_operand, words_in, captured, formed, forms_of, words_formed, in_region}
use Rattle.mem_model.specs.Next.{Local, Pending, Forks, Trapped, goes_past, goes_in, CallsEntry, callee_of, Next}
use Rattle.mem_laws.specs.StepLaws.{StandsAt}

-- ---- captured words

-- the thread reads the words of a fork: the one thread of the source and the main thread of a generic kernel where the call begins, a thread
-- of an SPMD kernel where all have come to it
pub record ReadsWords (m : Module) (t : ThreadState) (f : Frame) (rest : List Frame) (words : List Word) (fork : Fork) : Type 0 where
  pub result : Option Name
  pub tail_word : TailWord
  pub ret : Ty
  pub callee : Value
  pub operands : List Typed
  pub line : ℕ
  pub calls : t.frames ≡ f ∷ rest
  pub phase : f.code.phase ≡ (if t.enters then Gathered else Begins)
  pub inst : inst_at m f.code.at ≡ Some (record { result = result; kind = Call tail_word ret callee operands; line = line })
  pub is_fork : callee_of m callee ≡ CallsEntry Parallel
  pub found : operand_words m f.code.registers operands ≡ Ok words
  pub names : fork_of m operands ≡ Some fork

-- words that stand in no stack trap, whatever they are
abbrev pub NotStackTraps : Type 0
NotStackTraps =
    (m : Module) (t : ThreadState) (f : Frame) (rest : List Frame) (words : List Word) (fork : Fork) (n : ℕ) (p q : Ptr) → ReadsWords m t f rest words fork → fork.count ≡ suc n → words_operand words ≡ Some (Address p) → where_is p ≡ Elsewhere q →
    Next m t ≡ Trapped NotStack

-- where none is captured no word is looked at
abbrev pub NoneIsRead : Type 0
NoneIsRead =
    (m : Module) (t : ThreadState) (f : Frame) (rest : List Frame) (words : List Word) (fork : Fork) → ReadsWords m t f rest words fork → fork.count ≡ 0 → t.enters ≡ false → Next m t ≡ Pending (Forks fork.function fork.wrapper [])

-- a stack address behind k good words traps, whatever stands behind it
abbrev pub LeakBeforeLater : Type 0
LeakBeforeLater =
    (m : Module) (t : ThreadState) (f : Frame) (rest : List Frame) (words : List Word) (fork : Fork) (k n : ℕ) (p q : Ptr) (ps : List Ptr) (spot leaked : Spot) (offset inner : ℤ) → ReadsWords m t f rest words fork → fork.count ≡ k + suc n →
    words_operand words ≡ Some (Address p) → where_is p ≡ InStack spot offset → words_in (find_in (f ∷ rest) spot) offset k ≡ Ok ps →
    load_own (find_in (f ∷ rest) spot) (offset +ℤ pos (8 * k)) PtrCell ≡ Ok (Address q) → where_is q ≡ InStack leaked inner → Next m t ≡ Trapped StackLeak

-- ---- words in their forms

-- an address under a width, behind words that have their forms, is no number; what stands behind it isn't looked at
abbrev pub AddressUnderWidth : Type 0
AddressUnderWidth =
    (m : Module) (wrapper width : ℕ) (before behind : List Form) (ps qs : List Ptr) (block : BlockName) (offset : ℤ) (words : List Word) → forms_of m wrapper ≡ Some (before ++ Bits width ∷ behind) → formed before ps ≡ Ok words →
    words_formed m wrapper (ps ++ At block offset ∷ qs) ≡ Err NotNumber

-- so a thread of an SPMD kernel traps where it enters the region function
abbrev pub EntryTraps : Type 0
EntryTraps =
    (m : Module) (t : ThreadState) (f : Frame) (rest : List Frame) (words : List Word) (fork : Fork) (width : ℕ) (before behind : List Form) (ps qs : List Ptr) (block : BlockName) (offset : ℤ) (formed_words : List Word) →
    ReadsWords m t f rest words fork → t.enters ≡ true → captured (f ∷ rest) (words_operand words) fork.count ≡ Ok (ps ++ At block offset ∷ qs) →
    forms_of m fork.wrapper ≡ Some (before ++ Bits width ∷ behind) → formed before ps ≡ Ok formed_words → Next m t ≡ Trapped NotNumber

-- and a thread that doesn't enter it tells the words as they are
abbrev pub ForkTellsWords : Type 0
ForkTellsWords =
    (m : Module) (t : ThreadState) (f : Frame) (rest : List Frame) (words : List Word) (fork : Fork) (ps : List Ptr) → ReadsWords m t f rest words fork → t.enters ≡ false → captured (f ∷ rest) (words_operand words) fork.count ≡ Ok ps →
    Next m t ≡ Pending (Forks fork.function fork.wrapper ps)

-- ---- in a region and out of it

-- outside of a region __kmpc_barrier is a step of the thread's own
abbrev pub BarrierOutside : Type 0
BarrierOutside =
    (m : Module) (t : ThreadState) (f : Frame) (rest : List Frame) (result : Option Name) (tail_word : TailWord) (ret : Ty) (callee : Value) (operands : List Typed) (words : List Word) → StandsAt m t f rest result (Call tail_word ret callee operands) →
    callee_of m callee ≡ CallsEntry RegionBarrier → operand_words m f.code.registers operands ≡ Ok words → t.answers.level ≡ 0 → Next m t ≡ Local (goes_past t f rest)

-- the region function begins on two blocks of the thread's stack, which hold its number and 0
abbrev pub RegionBlocks : Type 0
RegionBlocks =
    (m : Module) (t : ThreadState) (below : List Frame) (function : ℕ) (words : List Word) → t.own < 2 ^ 32 →
    (load_own (find_in (in_region m t below function words).frames (t.own, t.counter)) (pos 0) (IntCell 32) ≡ Ok (Int t.own))
    × (load_own (find_in (in_region m t below function words).frames (t.own, t.counter + 1)) (pos 0) (IntCell 32) ≡ Ok (Int 0))

-- its return to a thread of an SPMD kernel leaves the region, and the thread stands at its fork
abbrev pub RegionReturns : Type 0
RegionReturns =
    (m : Module) (t : ThreadState) (g f : Frame) (rest : List Frame) (result : Option Name) → StandsAt m t g (f ∷ rest) result (Ret None) → f.code.phase ≡ InRegion → Next m t ≡ Local (record (goes_in t f rest HasLeft) { answers = outside_region t })
