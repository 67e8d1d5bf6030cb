-- Entry points are found by their names, which are all different.
use Rattle.std.proofs.Common.{◌≡◌, List, [], ◌∷◌, Option, Some, None, Bool, true, false, refl, sym, ap, ◌∙◌, if◌then◌else◌}
use Rattle.std.specs.Prelude.{MatchOption}
use Rattle.std.specs.Str.{bytes_eq}
use Rattle.std.proofs.lemmas.Slice.Eq.{bytes_eq-Decides}
use Rattle.ir_core.specs.declared.rtl.Rtl.{Rtl}
use Rattle.ir_core.specs.declared.rtl.Rtl.TheVariants.{TargetInit, TargetDeinit, Parallel, AllocShared, FreeShared, GetSharedVariables, Barrier, GlobalThreadNum, ThreadNum, NumThreads, Level, ParallelLevel, InParallel, IsSpmdExecMode, ForStaticInit, ForStaticFini, Print, KernelParallel, KernelEndParallel, SpmdBarrier, GenericBarrier, HardwareThreadId}
use Rattle.ir_core.specs.EntryPoints.{entry_name, entry_points}
use Rattle.ir_core.specs.Places.{Name}
use Rattle.mem_model.specs.Entries.{first_named, entry_of}

entry_is : (r : Rtl) → entry_of (entry_name r) ≡ Some r
entry_is TargetInit = refl
entry_is TargetDeinit = refl
entry_is Parallel = refl
entry_is AllocShared = refl
entry_is FreeShared = refl
entry_is GetSharedVariables = refl
entry_is Barrier = refl
entry_is GlobalThreadNum = refl
entry_is ThreadNum = refl
entry_is NumThreads = refl
entry_is Level = refl
entry_is ParallelLevel = refl
entry_is InParallel = refl
entry_is IsSpmdExecMode = refl
entry_is ForStaticInit = refl
entry_is ForStaticFini = refl
entry_is Print = refl
entry_is KernelParallel = refl
entry_is KernelEndParallel = refl
entry_is SpmdBarrier = refl
entry_is GenericBarrier = refl
entry_is HardwareThreadId = refl

-- a found entry point has the name
pub is_named : (rs : List Rtl) (x : Name) (r : Rtl) → first_named rs x ≡ Some r → entry_name r ≡ x
is_named [] x r e = let f : ⊥ = cc in absurd f
is_named (s ∷ rs) x r e = by (bytes_eq x (entry_name s)) refl (is_named rs x r) e
  where
    by : (b : Bool) → bytes_eq x (entry_name s) ≡ b → (first_named rs x ≡ Some r → entry_name r ≡ x) → (if b then Some s else first_named rs x) ≡ Some r → entry_name r ≡ x
    by true t rest h = let same : s ≡ r = cc in ap entry_name (sym same) ∙ sym ((bytes_eq-Decides x (entry_name s)).0 t)
    by false t rest h = rest h

none_named : (x : Name) → ((r : Rtl) → entry_name r ≡ x → ⊥) → (o : Option Rtl) → entry_of x ≡ o → o ≡ None
none_named x none None e = refl
none_named x none (Some r) e = absurd (none r (is_named entry_points x r e))

-- what the table answers is the entry point of the name
pub entry_found : (x : Name) (o : Option Rtl) → MatchOption o ((r : Rtl) → entry_name r ≡ x → ⊥) (λ r. entry_name r ≡ x) → entry_of x ≡ o
entry_found x None none = none_named x none (entry_of x) refl
entry_found x (Some r) is = ap entry_of (sym is) ∙ entry_is r
