-- What a thread does at a call of an entry point of the device runtime (OpenMP 5.1, "Runtime Library Routines"; the entry points of LLVM 16).
use Rattle.std.specs.Prelude.{ℕ, ◌-◌, ◌^◌, ℤ, pos, ◌==◌, nat_lt, nat_le, List, [], ◌∷◌, Bool, true, false, ◌&&◌, not, Option, Some, None, Result, Ok, Err, if◌then◌else◌}
use Rattle.std.specs.Str.{bytes_eq}
use Rattle.ir_core.specs.declared.instructions.Value.{Value}
use Rattle.ir_core.specs.declared.instructions.Value.TheVariants.{Int as IntValue}
use Rattle.ir_core.specs.declared.instructions.Typed.{Typed}
use Rattle.ir_core.specs.declared.module.Module.{Module}
use Rattle.ir_core.specs.declared.rtl.Rtl.{Rtl}
use Rattle.ir_core.specs.declared.rtl.Rtl.TheVariants.{TargetInit, TargetDeinit, Parallel, AllocShared, FreeShared, GetSharedVariables, Barrier as RegionBarrier, GlobalThreadNum, ThreadNum, NumThreads, Level, ParallelLevel, InParallel, IsSpmdExecMode, ForStaticInit, ForStaticFini, Print, KernelParallel, KernelEndParallel, SpmdBarrier, GenericBarrier, HardwareThreadId}
use Rattle.ir_core.specs.EntryPoints.{entry_name, entry_points}
use Rattle.mem_model.specs.declared.memory.BlockName.TheVariants.{Captures, Code as CodeBlock}
use Rattle.mem_model.specs.declared.memory.Ptr.{Ptr}
use Rattle.mem_model.specs.declared.memory.Ptr.TheVariants.{Num as Number, At}
use Rattle.mem_model.specs.declared.memory.Word.{Word}
use Rattle.mem_model.specs.declared.memory.Word.TheVariants.{Int, Ptr as Address}
use Rattle.mem_model.specs.declared.memory.Cell.{Cell}
use Rattle.mem_model.specs.declared.memory.Cell.TheVariants.{Int as IntCell, Ptr as PtrCell}
use Rattle.mem_model.specs.declared.step.Barrier.TheVariants.{Explicit, Team, Guard}
use Rattle.mem_model.specs.declared.step.Trap.{Trap}
use Rattle.mem_model.specs.declared.step.Trap.TheVariants.{NoBlock, NotStack, Division, Unreachable}
use Rattle.mem_model.specs.Eval.{signed, wrapped}
use Rattle.mem_model.specs.Values.{and_then, operand_words}
use Rattle.mem_model.specs.declared.phase.LoopPoint.TheVariants.{Sleeps}
use Rattle.mem_model.specs.declared.phase.Phase.TheVariants.{Gathered, Loops}
use Rattle.mem_model.specs.Thread.{Name, Answers, Frame, ThreadState, Where, InStack, Elsewhere, where_is, find_in, put_in, load_own, store_own, outside_region}
use Rattle.mem_model.specs.Steps.{Prints, Makes, Releases, Does, Deinit, Forks, Arrives, AsksForWork, NextStep, Local, Pending, Trapped, with_found, with_result, code_past, with_frames, goes_on, goes_past, goes_in}
use Rattle.mem_model.specs.Regions.{Fork, fork_of, words_operand, captured}
use Rattle.mem_model.specs.Schedules.{Turns, turns}

-- ---- names of entry points

abbrev pub first_named : List Rtl → Name → Option Rtl
first_named [] x = None
first_named (r ∷ rs) x = if bytes_eq x (entry_name r) then Some r else first_named rs x

-- the entry point of a name
abbrev pub entry_of : Name → Option Rtl
entry_of x = first_named entry_points x

-- ---- __kmpc_target_init

-- a worker is told its number, a thread that runs user code -1
abbrev pub is_worker : ThreadState → Bool
is_worker t = not (t.answers.init == 2 ^ 32 - 1)

abbrev pub is_on : Value → Bool
is_on (IntValue n) = n == 1
is_on _ = false

-- the last operand says whether the runtime's own loop runs
abbrev pub runs_loop : List Typed → Bool
runs_loop (place ∷ mode ∷ flag ∷ []) = is_on flag.value
runs_loop _ = false

abbrev pub begins_kernel : ThreadState → Frame → List Frame → Option Name → List Typed → NextStep
begins_kernel t f rest x operands = if is_worker t && runs_loop operands then Local (goes_in t f rest (Loops Sleeps)) else Local (goes_on t f rest x (Int t.answers.init))

-- ---- forks

-- each thread of an SPMD kernel first comes to the fork; the one thread of the source and the main thread of a generic kernel read the words
abbrev pub forks : ThreadState → Frame → List Frame → List Word → Fork → NextStep
forks t f rest words fork =
    if t.enters then Pending (Arrives Team (Some Gathered))
    else with_found (captured (f ∷ rest) (words_operand words) fork.count) (λ ps. Pending (Forks fork.function fork.wrapper ps))

-- ---- barriers

-- outside a region the explicit barrier is nothing
abbrev pub meets : ThreadState → Frame → List Frame → NextStep
meets t f rest = if t.answers.level == 0 then Local (goes_past t f rest) else Pending (Arrives Explicit None)

-- ---- the own stack

-- the calls with a word stored in a block of the stack, or the trap
abbrev pub put_own : List Frame → Where → Cell → Word → Result (List Frame) Trap
put_own fs (Elsewhere p) cell word = Err NotStack
put_own fs (InStack spot offset) cell word = and_then (store_own (find_in fs spot) offset cell word) (λ bytes. Ok (put_in spot bytes fs))

abbrev pub as_number : Word → Result ℕ Trap
as_number (Int n) = Ok n
as_number (Address p) = Err Unreachable

abbrev pub get_own : List Frame → Where → Result ℕ Trap
get_own fs (Elsewhere p) = Err NotStack
get_own fs (InStack spot offset) = and_then (load_own (find_in fs spot) offset (IntCell 32)) as_number

-- the capture area's address is stored in the stack
abbrev pub gets_shared : ThreadState → Frame → List Frame → Ptr → NextStep
gets_shared t f rest p = with_found (put_own (record f { code = code_past f.code } ∷ rest) (where_is p) PtrCell (Address (At Captures (pos 0)))) (λ fs. Local (with_frames t fs))

-- a release of an address in a stack, which is no heap block
abbrev pub releases : ℕ → Where → NextStep
releases size (InStack spot offset) = Trapped NoBlock
releases size (Elsewhere p) = Pending (Does (Releases p size))

-- ---- static schedules

-- where a static schedule finds its loop and puts the thread's share
pub record Slots : Type 0 where
  pub last : Where
  pub lower : Where
  pub upper : Where
  pub stride : Where

abbrev pub int32 : ℤ → Word
int32 z = Int (wrapped 32 z)

abbrev pub truth_word : Bool → Word
truth_word true = Int 1
truth_word false = Int 0

abbrev pub put_bounds : Slots → Option (ℤ × ℤ) → List Frame → Result (List Frame) Trap
put_bounds s None fs = Ok fs
put_bounds s (Some bounds) fs = and_then (put_own fs s.lower (IntCell 32) (int32 bounds.0)) (λ gs. put_own gs s.upper (IntCell 32) (int32 bounds.1))

abbrev pub put_turns : Slots → Turns → List Frame → Result (List Frame) Trap
put_turns s share fs =
    and_then (put_own fs s.last (IntCell 32) (truth_word share.last)) (λ gs. and_then (put_bounds s share.bounds gs) (λ hs. put_own hs s.stride (IntCell 32) (int32 share.stride)))

abbrev pub is_stack : Where → Bool
is_stack (InStack spot offset) = true
is_stack _ = false

-- all four lie in the stack
abbrev pub in_stack : Slots → NextStep → NextStep
in_stack s go = if is_stack s.last && is_stack s.lower && is_stack s.upper && is_stack s.stride then go else Trapped NotStack

abbrev pub schedules : ThreadState → Frame → List Frame → ℕ → Slots → ℤ → ℤ → NextStep
schedules t f rest schedule s increment chunk =
    with_found (get_own (f ∷ rest) s.lower) (λ lower. with_found (get_own (f ∷ rest) s.upper) (λ upper.
    with_found (put_turns s (turns schedule (record { lower = signed 32 lower; upper = signed 32 upper; increment = increment }) (record { number = t.answers.number; count = t.answers.count }) chunk) (record f { code = code_past f.code } ∷ rest)) (λ fs.
    Local (with_frames t fs))))

-- the turns are stored where all four lie in the stack and the increment isn't 0
abbrev pub starts_turns : ThreadState → Frame → List Frame → ℕ → Slots → ℕ → ℕ → NextStep
starts_turns t f rest schedule s increment chunk =
    in_stack s (if increment == 0 then Trapped Division else schedules t f rest schedule s (signed 32 increment) (signed 32 chunk))

-- numbers of 32 bits, as both are in every checked module
abbrev pub fits_32 : ℕ → ℕ → Bool
fits_32 increment chunk = nat_lt increment (2 ^ 32) && nat_lt chunk (2 ^ 32)

abbrev pub starts_loop : ThreadState → Frame → List Frame → List Word → NextStep
starts_loop t f rest (place ∷ number ∷ Int schedule ∷ Address last ∷ Address lower ∷ Address upper ∷ Address stride ∷ Int increment ∷ Int chunk ∷ []) =
    let s : Slots = record { last = where_is last; lower = where_is lower; upper = where_is upper; stride = where_is stride } in
    if fits_32 increment chunk then starts_turns t f rest schedule s increment chunk else Trapped Unreachable
starts_loop t f rest _ = Trapped Unreachable

-- ---- queries

abbrev pub one_if : Bool → ℕ
one_if true = 1
one_if false = 0

-- in a region of more than one thread
abbrev pub is_parallel : Answers → Bool
is_parallel a = not (a.level == 0) && not (nat_le a.count 1)

-- ---- calls by their operands' words

abbrev pub next_known : ThreadState → Frame → List Frame → Option Name → Rtl → List Word → NextStep
next_known t f rest x AllocShared (Int size ∷ []) = Pending (Does (Makes size))
next_known t f rest x FreeShared (Address p ∷ Int size ∷ []) = releases size (where_is p)
next_known t f rest x GetSharedVariables (Address p ∷ []) = gets_shared t f rest p
next_known t f rest x RegionBarrier words = meets t f rest
next_known t f rest x GlobalThreadNum words = Local (goes_on t f rest x (Int t.answers.number))
next_known t f rest x ThreadNum words = Local (goes_on t f rest x (Int t.answers.number))
next_known t f rest x NumThreads words = Local (goes_on t f rest x (Int t.answers.count))
next_known t f rest x Level words = Local (goes_on t f rest x (Int t.answers.level))
next_known t f rest x ParallelLevel words = Local (goes_on t f rest x (Int t.answers.level))
next_known t f rest x InParallel words = Local (goes_on t f rest x (Int (one_if (is_parallel t.answers))))
next_known t f rest x IsSpmdExecMode words = Local (goes_on t f rest x (Int t.answers.spmd))
next_known t f rest x ForStaticInit words = starts_loop t f rest words
next_known t f rest x ForStaticFini words = Local (goes_past t f rest)
next_known t f rest x Print (Int n ∷ []) = Pending (Does (Prints n))
next_known t f rest x KernelParallel words = Pending AsksForWork
next_known t f rest x KernelEndParallel words = Local (record (goes_past t f rest) { answers = outside_region t })
next_known t f rest x SpmdBarrier words = Pending (Arrives Guard None)
next_known t f rest x GenericBarrier words = Pending (Arrives Team None)
next_known t f rest x HardwareThreadId words = Local (goes_on t f rest x (Int t.own))
next_known t f rest x _ words = Trapped Unreachable

-- a call of an entry point: init and deinit look at no register, all others read their operands first
abbrev pub next_entry : Module → ThreadState → Frame → List Frame → Option Name → List Typed → Rtl → NextStep
next_entry m t f rest x operands TargetInit = begins_kernel t f rest x operands
next_entry m t f rest x operands TargetDeinit = Pending Deinit
next_entry m t f rest x operands Parallel =
    with_found (operand_words m f.code.registers operands) (λ words. with_result (fork_of m operands) (forks t f rest words))
next_entry m t f rest x operands r = with_found (operand_words m f.code.registers operands) (next_known t f rest x r)

-- ---- published work

-- the published wrapper as a pointer to its code, or null
abbrev pub work_word : Option ℕ → Word
work_word None = Address (Number 0)
work_word (Some wrapper) = Address (At (CodeBlock wrapper) (pos 0))
