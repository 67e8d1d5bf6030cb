-- A name is that of one entry point alone.
use Rattle.std.proofs.Common.{◌≡◌, ℕ, List, Bool, true, false, ◌&&◌, ◌||◌, refl, sym, ap, ◌∙◌}
use Rattle.std.specs.List.{list_any}
use Rattle.std.specs.Str.{bytes_eq}
use Rattle.ir_core.specs.declared.types.Ty.{Ty}
use Rattle.ir_core.specs.declared.types.Scalar.{Scalar}
use Rattle.ir_core.specs.declared.types.Scalar.TheVariants.{Int, Ptr}
use Rattle.ir_core.specs.declared.module.Param.{Param}
use Rattle.ir_core.specs.declared.module.Function.{Function}
use Rattle.ir_core.specs.declared.rtl.Rtl.{Rtl}
use Rattle.ir_core.specs.declared.rtl.Rtl.TheVariants.{TargetInit, TargetDeinit, Parallel, AllocShared, FreeShared, GetSharedVariables, Barrier, GlobalThreadNum, ThreadNum, NumThreads, Level, ParallelLevel, InParallel, IsSpmdExecMode, ForStaticInit, ForStaticFini, Print, KernelParallel, KernelEndParallel, SpmdBarrier, GenericBarrier, HardwareThreadId}
use Rattle.ir_core.specs.EntryPoints.{entry_name, entry_point, entry_points, scalar_type}
use Rattle.ir_core.specs.FirstForm.{same_scalar}
use Rattle.ir_core.specs.NameRefusals.{is_result_of, are_declared, is_declared_as}
use Rattle.name_tables.specs.Kept.{is_of}
use Rattle.std.specs.Prelude.{Some}
use Rattle.item_names.specs.Headings.{is_typed}

abbrev is_declared : List ℕ → Ty → List Param → Rtl → Bool
is_declared x ret params r = bytes_eq x (entry_name r) && is_result_of r ret && are_declared (entry_point r).params params

or_nothing : (b : Bool) → (b || false) ≡ b
or_nothing true = refl
or_nothing false = refl

own_name : (r : Rtl) (ret : Ty) (params : List Param) → list_any (is_declared (entry_name r) ret params) entry_points ≡ is_typed r ret params
own_name TargetInit ret params = or_nothing (is_typed TargetInit ret params)
own_name TargetDeinit ret params = or_nothing (is_typed TargetDeinit ret params)
own_name Parallel ret params = or_nothing (is_typed Parallel ret params)
own_name AllocShared ret params = or_nothing (is_typed AllocShared ret params)
own_name FreeShared ret params = or_nothing (is_typed FreeShared ret params)
own_name GetSharedVariables ret params = or_nothing (is_typed GetSharedVariables ret params)
own_name Barrier ret params = or_nothing (is_typed Barrier ret params)
own_name GlobalThreadNum ret params = or_nothing (is_typed GlobalThreadNum ret params)
own_name ThreadNum ret params = or_nothing (is_typed ThreadNum ret params)
own_name NumThreads ret params = or_nothing (is_typed NumThreads ret params)
own_name Level ret params = or_nothing (is_typed Level ret params)
own_name ParallelLevel ret params = or_nothing (is_typed ParallelLevel ret params)
own_name InParallel ret params = or_nothing (is_typed InParallel ret params)
own_name IsSpmdExecMode ret params = or_nothing (is_typed IsSpmdExecMode ret params)
own_name ForStaticInit ret params = or_nothing (is_typed ForStaticInit ret params)
own_name ForStaticFini ret params = or_nothing (is_typed ForStaticFini ret params)
own_name Print ret params = or_nothing (is_typed Print ret params)
own_name KernelParallel ret params = or_nothing (is_typed KernelParallel ret params)
own_name KernelEndParallel ret params = or_nothing (is_typed KernelEndParallel ret params)
own_name SpmdBarrier ret params = or_nothing (is_typed SpmdBarrier ret params)
own_name GenericBarrier ret params = or_nothing (is_typed GenericBarrier ret params)
own_name HardwareThreadId ret params = or_nothing (is_typed HardwareThreadId ret params)

-- a function of an entry point's name is declared as an entry point where it has the types of that one
pub declared_as : (f : Function) (r : Rtl) → entry_name r ≡ f.name → list_any (is_declared_as f) entry_points ≡ is_typed r f.ret f.params
declared_as f r name = ap (λ x. list_any (is_declared x f.ret f.params) entry_points) (sym name) ∙ own_name r f.ret f.params

pub scalar_same : (s : Scalar) (ty : Ty) → is_of (Some s) ty ≡ same_scalar (scalar_type s) ty
scalar_same (Int width) ty = refl
scalar_same Ptr ty = refl
