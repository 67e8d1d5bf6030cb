-- The entry points of the device runtime that this project knows, after LLVM 16.
use Rattle.std.specs.Prelude.{List, ℕ, [], ◌∷◌, map, codes, Bool, true, false, if◌then◌else◌}
use Rattle.std.specs.Str.{bytes_eq}
use Rattle.ir_core.specs.declared.types.Ty.{Ty}
use Rattle.ir_core.specs.declared.types.Ty.TheVariants.{Void, Int, Ptr}
use Rattle.ir_core.specs.declared.types.Scalar.{Scalar}
use Rattle.ir_core.specs.declared.types.Scalar.TheVariants.{Int as IntScalar, Ptr as PtrScalar}
use Rattle.ir_core.specs.declared.rtl.Rtl.{Rtl}
use Rattle.ir_core.specs.declared.rtl.Rtl.TheVariants.{TargetInit, TargetDeinit, Parallel, AllocShared, FreeShared, GetSharedVariables, Barrier, GlobalThreadNum, ThreadNum, NumThreads, Level, ParallelLevel, InParallel, IsSpmdExecMode, ForStaticInit, ForStaticFini, Print, KernelParallel, KernelEndParallel, SpmdBarrier, GenericBarrier, HardwareThreadId}

abbrev pub target_init : List ℕ
target_init = codes "__kmpc_target_init"

abbrev pub target_deinit : List ℕ
target_deinit = codes "__kmpc_target_deinit"

-- the type of a register
abbrev pub scalar_type : Scalar → Ty
scalar_type (IntScalar width) = Int width
scalar_type PtrScalar = Ptr

-- how an entry point is declared, and whether the optimiser alone writes it
pub record EntryPoint : Type 0 where
  pub name : List ℕ
  pub result : Ty
  pub params : List Ty
  pub is_output : Bool

abbrev pub input : List ℕ → Ty → List Ty → EntryPoint
input name result params = record { name = name; result = result; params = params; is_output = false }

abbrev pub output : List ℕ → Ty → List Ty → EntryPoint
output name result params = record { name = name; result = result; params = params; is_output = true }

abbrev pub entry_point : Rtl → EntryPoint
entry_point TargetInit = input target_init (Int 32) (Ptr ∷ Int 8 ∷ Int 1 ∷ [])
entry_point TargetDeinit = input target_deinit Void (Ptr ∷ Int 8 ∷ [])
entry_point Parallel = input (codes "__kmpc_parallel_51") Void (Ptr ∷ Int 32 ∷ Int 32 ∷ Int 32 ∷ Int 32 ∷ Ptr ∷ Ptr ∷ Ptr ∷ Int 64 ∷ [])
entry_point AllocShared = input (codes "__kmpc_alloc_shared") Ptr (Int 64 ∷ [])
entry_point FreeShared = input (codes "__kmpc_free_shared") Void (Ptr ∷ Int 64 ∷ [])
entry_point GetSharedVariables = input (codes "__kmpc_get_shared_variables") Void (Ptr ∷ [])
entry_point Barrier = input (codes "__kmpc_barrier") Void (Ptr ∷ Int 32 ∷ [])
entry_point GlobalThreadNum = input (codes "__kmpc_global_thread_num") (Int 32) (Ptr ∷ [])
entry_point ThreadNum = input (codes "omp_get_thread_num") (Int 32) []
entry_point NumThreads = input (codes "omp_get_num_threads") (Int 32) []
entry_point Level = input (codes "omp_get_level") (Int 32) []
entry_point ParallelLevel = input (codes "__kmpc_parallel_level") (Int 16) (Ptr ∷ Int 32 ∷ [])
entry_point InParallel = input (codes "omp_in_parallel") (Int 32) []
entry_point IsSpmdExecMode = input (codes "__kmpc_is_spmd_exec_mode") (Int 8) []
entry_point ForStaticInit = input (codes "__kmpc_for_static_init_4") Void (Ptr ∷ Int 32 ∷ Int 32 ∷ Ptr ∷ Ptr ∷ Ptr ∷ Ptr ∷ Int 32 ∷ Int 32 ∷ [])
entry_point ForStaticFini = input (codes "__kmpc_for_static_fini") Void (Ptr ∷ Int 32 ∷ [])
entry_point Print = input (codes "ompx_print_i64") Void (Int 64 ∷ [])
entry_point KernelParallel = output (codes "__kmpc_kernel_parallel") (Int 1) (Ptr ∷ [])
entry_point KernelEndParallel = output (codes "__kmpc_kernel_end_parallel") Void []
entry_point SpmdBarrier = output (codes "__kmpc_barrier_simple_spmd") Void (Ptr ∷ Int 32 ∷ [])
entry_point GenericBarrier = output (codes "__kmpc_barrier_simple_generic") Void (Ptr ∷ Int 32 ∷ [])
entry_point HardwareThreadId = output (codes "__kmpc_get_hardware_thread_id_in_block") (Int 32) []

abbrev pub entry_name : Rtl → List ℕ
entry_name r = (entry_point r).name

-- in the order of the table
abbrev pub entry_points : List Rtl
entry_points = TargetInit ∷ TargetDeinit ∷ Parallel ∷ AllocShared ∷ FreeShared ∷ GetSharedVariables ∷ Barrier ∷ GlobalThreadNum ∷ ThreadNum ∷ NumThreads ∷ Level ∷ ParallelLevel ∷ InParallel ∷ IsSpmdExecMode ∷ ForStaticInit ∷ ForStaticFini ∷ Print ∷ KernelParallel ∷ KernelEndParallel ∷ SpmdBarrier ∷ GenericBarrier ∷ HardwareThreadId ∷ []

abbrev pub is_among : List (List ℕ) → List ℕ → Bool
is_among [] x = false
is_among (name ∷ names) x = if bytes_eq x name then true else is_among names x

abbrev pub is_entry_point : List ℕ → Bool
is_entry_point x = is_among (map entry_name entry_points) x
