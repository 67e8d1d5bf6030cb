-- Launches of kernels: which fit a module, the memory at the start, and what is seen of a run.
use Rattle.std.specs.Prelude.{◌≡◌, ℕ, ℤ, ◌+◌, ◌^◌, ◌<◌, ◌≤◌, List, [], ◌∷◌, ◌++◌, length, map, Bool, true, false, Option, Some, None, slice_get, if◌then◌else◌}
use Rattle.ir_core.specs.declared.types.Ty.{Ty}
use Rattle.ir_core.specs.declared.types.Ty.TheVariants.{Int as IntTy, Ptr as PtrTy}
use Rattle.ir_core.specs.declared.module.Module.{Module}
use Rattle.ir_core.specs.declared.module.Function.{Function}
use Rattle.ir_core.specs.declared.module.Param.{Param}
use Rattle.ir_core.specs.declared.module.Global.{Global}
use Rattle.ir_core.specs.EntryPoints.{target_init}
use Rattle.ir_core.specs.Wrappers.{callees, is_in, wrappers, most_captures}
use Rattle.mem_model.specs.declared.launch.Launch.{Launch}
use Rattle.mem_model.specs.declared.launch.Arg.{Arg}
use Rattle.mem_model.specs.declared.launch.Arg.TheVariants.{Buffer, Int as IntArg, Null}
use Rattle.mem_model.specs.declared.memory.BlockName.{BlockName}
use Rattle.mem_model.specs.declared.memory.BlockName.TheVariants.{Arg as ArgBlock, Global as GlobalBlock}
use Rattle.mem_model.specs.declared.memory.Ptr.TheVariants.{Num as Number, At}
use Rattle.mem_model.specs.declared.memory.Byte.TheVariants.{Num}
use Rattle.mem_model.specs.declared.memory.Word.{Word}
use Rattle.mem_model.specs.declared.memory.Word.TheVariants.{Int, Ptr as Address}
use Rattle.mem_model.specs.Memory.{Memory, no_blocks, with_block, block_limit, shown_block}
use Rattle.mem_model.specs.declared.phase.Phase.TheVariants.{Begins}
use Rattle.mem_model.specs.Thread.{Registers, bound, Answers, Frame, ThreadState}
use Rattle.ir_core.specs.Places.{function_place}
use Rattle.mem_model.specs.Do.{Common}
use Rattle.mem_model.specs.Globals.{with_globals}
use Rattle.mem_model.specs.Bound.{Counted, whole_bound}

-- ---- launches that fit

-- a kernel is a function that calls __kmpc_target_init
abbrev pub is_kernel : Function → Bool
is_kernel f = is_in (callees f) target_init

-- an argument is of its parameter's type: a buffer or null for a pointer, a number below two to the width for an integer
abbrev pub FitsParam : Ty → Arg → Type 0
FitsParam PtrTy (Buffer bytes) = length bytes ≤ block_limit
FitsParam PtrTy Null = Unit {0}
FitsParam (IntTy width) (IntArg n) = n < 2 ^ width
FitsParam _ _ = ⊥

abbrev pub FitParams : List Param → List Arg → Type 0
FitParams [] [] = Unit {0}
FitParams (p ∷ ps) (a ∷ as_) = FitsParam p.ty a × FitParams ps as_
FitParams _ _ = ⊥

abbrev pub buffer_size : Arg → ℕ
buffer_size (Buffer bytes) = length bytes
buffer_size _ = 0

abbrev pub buffer_sizes : List Arg → ℕ
buffer_sizes [] = 0
buffer_sizes (a ∷ as_) = buffer_size a + buffer_sizes as_

-- 16,777,216 bytes in all buffers; 64 region threads; 2,000,000 steps
unfoldable pub buffers_limit : ℕ
buffers_limit = 16777216

unfoldable pub threads_limit : ℕ
threads_limit = 64

unfoldable pub steps_limit : ℕ
steps_limit = 2000000

-- the launch names a kernel of the module, is in the ranges, and has one argument of its type for each parameter
pub record Fits (m : Module) (l : Launch) : Type 0 where
  pub place : ℕ
  pub function : Function
  pub named : function_place m l.kernel ≡ Some place
  pub there : slice_get m.functions place ≡ Some function
  pub is_kernel : is_kernel function ≡ true
  pub threads : (1 ≤ l.threads) × (l.threads ≤ threads_limit)
  pub steps : (1 ≤ l.steps) × (l.steps ≤ steps_limit)
  pub params : FitParams function.params l.args
  pub buffers : buffer_sizes l.args ≤ buffers_limit

-- ---- the start

-- a parameter is its buffer at offset 0, its integer, or null
abbrev pub arg_word : ℕ → Arg → Word
arg_word i (Buffer bytes) = Address (At (ArgBlock i) (ℤ.pos 0))
arg_word i (IntArg n) = Int n
arg_word i Null = Address (Number 0)

abbrev pub arg_words : ℕ → List Arg → List Word
arg_words i [] = []
arg_words i (a ∷ as_) = arg_word i a ∷ arg_words (i + 1) as_

abbrev pub params_of : Option Function → List Param
params_of None = []
params_of (Some f) = f.params

abbrev pub first_registers : Module → ℕ → Launch → Registers
first_registers m k l = bound (params_of (slice_get m.functions k)) (arg_words 0 l.args)

-- how a thread takes part in a run: its number, how many threads a region has, and whether it enters regions itself
pub record Role : Type 0 where
  pub own : ℕ
  pub size : ℕ
  pub enters : Bool

-- a thread in no call
abbrev pub idle_thread : Role → Answers → ThreadState
idle_thread r answers = record { own = r.own; size = r.size; enters = r.enters; counter = 0; frames = []; answers = answers }

abbrev pub kernel_frame : Module → Launch → ℕ → Frame
kernel_frame m l k = record { code = record { at = record { function = k; block = 0; index = 0 }; phase = Begins; registers = first_registers m k l; back = None }; blocks = [] }

-- a thread at the start of the kernel; where there is none, it has no call
abbrev pub thread_at : Module → Launch → Role → Answers → Option ℕ → ThreadState
thread_at m l r answers None = idle_thread r answers
thread_at m l r answers (Some k) = record (idle_thread r answers) { frames = kernel_frame m l k ∷ [] }

abbrev pub first_thread : Module → Launch → Role → Answers → ThreadState
first_thread m l r answers = thread_at m l r answers (function_place m l.kernel)

abbrev pub with_buffer : ℕ → Arg → Memory → Memory
with_buffer i (Buffer bytes) m = with_block m (ArgBlock i) false (map Num bytes)
with_buffer i _ m = m

abbrev pub with_buffers : ℕ → List Arg → Memory → Memory
with_buffers i [] m = m
with_buffers i (a ∷ as_) m = with_buffers (i + 1) as_ (with_buffer i a m)

-- the buffers of the arguments, and the globals with their initializers
abbrev pub first_memory : Module → Launch → Memory
first_memory m l = with_globals m 0 m.globals (with_buffers 0 l.args no_blocks)

-- nothing is printed at the start, and no heap block made
abbrev pub first_common : Memory → Common
first_common m = record { memory = m; heaps = 0; prints = [] }

-- ---- what is seen

abbrev pub buffer_names : ℕ → List Arg → List BlockName
buffer_names i [] = []
buffer_names i (Buffer bytes ∷ as_) = ArgBlock i ∷ buffer_names (i + 1) as_
buffer_names i (a ∷ as_) = buffer_names (i + 1) as_

abbrev pub global_names : ℕ → List Global → List BlockName
global_names i [] = []
global_names i (g ∷ gs) = if g.constant then global_names (i + 1) gs else (GlobalBlock i ∷ global_names (i + 1) gs)

-- the buffers of the arguments, and the globals of the input module that are not constant
abbrev pub shown_names : Module → Launch → List BlockName
shown_names m l = buffer_names 0 l.args ++ global_names 0 m.globals

-- the printed values in their order, and the bytes of what is shown
pub record Outcome : Type 0 where
  pub prints : List ℕ
  pub blocks : List (List (Option ℕ))

abbrev pub outcome_of : Module → Launch → Common → Outcome
outcome_of m l c = record { prints = c.prints; blocks = map (shown_block c.memory) (shown_names m l) }

-- what the step bound counts
abbrev pub counted : Module → Launch → Counted
counted m l = record { threads = l.threads; wrappers = length (wrappers m); captures = most_captures m }

-- how many steps an optimised run may have for n steps of the source
abbrev pub Bound : Module → Launch → ℕ → ℕ
Bound m l n = whole_bound (counted m l) n
