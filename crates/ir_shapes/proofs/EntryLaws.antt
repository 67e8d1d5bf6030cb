-- Which calls can't be run yet, by the name of the callee.
use Rattle.std.proofs.Common.{◌≡◌, ℕ, List, [], ◌∷◌, Bool, true, false, not, ◌&&◌, ◌||◌, refl, sym, ap, ◌∙◌}
use Rattle.std.specs.List.{list_any}
use Rattle.std.specs.Str.{bytes_eq}
use Rattle.std.proofs.lemmas.Slice.Eq.{bytes_eq-Decides}
use Rattle.ir_core.specs.declared.instructions.Value.{Value}
use Rattle.ir_core.specs.declared.instructions.Value.TheVariants.{Global as GlobalValue}
use Rattle.ir_core.specs.declared.instructions.Kind.{Kind}
use Rattle.ir_core.specs.declared.instructions.Kind.TheVariants.{Call}
use Rattle.ir_core.specs.declared.instructions.Inst.{Inst}
use Rattle.ir_core.specs.declared.rtl.Rtl.{Rtl}
use Rattle.ir_core.specs.declared.rtl.Rtl.TheVariants.{TargetInit, TargetDeinit, Parallel, AllocShared, FreeShared, GetSharedVariables, Barrier, GlobalThreadNum, ThreadNum, NumThreads, Level, ParallelLevel, InParallel, IsSpmdExecMode, ForStaticInit, ForStaticFini, Print, KernelParallel, KernelEndParallel, SpmdBarrier, GenericBarrier, HardwareThreadId}
use Rattle.ir_core.specs.EntryPoints.{entry_name, entry_points}
use Rattle.ir_core.specs.FirstForm.{is_function}
use Rattle.ir_core.specs.Places.{Name}
use Rattle.shapes.specs.Facts.{calls}
use Rattle.shapes.specs.Refusals.{is_built, is_unbuilt}
use Rattle.ir_shapes.specs.Unbuilt.{is_unbuilt_name, is_unbuilt_kind, is_unbuilt_callee}

-- an entry point's own name
of_entry_point : (r : Rtl) → is_unbuilt_name (entry_name r) ≡ not (is_built r)
of_entry_point TargetInit = refl
of_entry_point TargetDeinit = refl
of_entry_point Parallel = refl
of_entry_point AllocShared = refl
of_entry_point FreeShared = refl
of_entry_point GetSharedVariables = refl
of_entry_point Barrier = refl
of_entry_point GlobalThreadNum = refl
of_entry_point ThreadNum = refl
of_entry_point NumThreads = refl
of_entry_point Level = refl
of_entry_point ParallelLevel = refl
of_entry_point InParallel = refl
of_entry_point IsSpmdExecMode = refl
of_entry_point ForStaticInit = refl
of_entry_point ForStaticFini = refl
of_entry_point Print = refl
of_entry_point KernelParallel = refl
of_entry_point KernelEndParallel = refl
of_entry_point SpmdBarrier = refl
of_entry_point GenericBarrier = refl
of_entry_point HardwareThreadId = refl

pub named : (x : Name) (r : Rtl) → entry_name r ≡ x → not (is_built r) ≡ is_unbuilt_name x
named x r is = sym (of_entry_point r) ∙ ap is_unbuilt_name is

-- a name of no entry point
not_named : (x y : Name) (b : Bool) → bytes_eq x y ≡ b → (y ≡ x → ⊥) → b ≡ false
not_named x y false e other = refl
not_named x y true e other = absurd (other (sym ((bytes_eq-Decides x y).0 e)))

among_none : (x : Name) → ((r : Rtl) → entry_name r ≡ x → ⊥) → (rs : List Rtl) → list_any (λ r. bytes_eq x (entry_name r) && not (is_built r)) rs ≡ false
among_none x other [] = refl
among_none x other (r ∷ rs) =
    ap (λ b. (b && not (is_built r)) || list_any (λ s. bytes_eq x (entry_name s) && not (is_built s)) rs) (not_named x (entry_name r) (bytes_eq x (entry_name r)) refl (other r))
    ∙ among_none x other rs

pub unnamed : (x : Name) → ((r : Rtl) → entry_name r ≡ x → ⊥) → false ≡ is_unbuilt_name x
unnamed x other = sym (among_none x other entry_points)

-- ---- calls

by_callee : (callee : Value) → is_unbuilt_callee callee ≡ list_any (λ r. is_function (entry_name r) callee && not (is_built r)) entry_points
by_callee (GlobalValue x) = refl
by_callee _ = refl

pub by_kind : (kind : Kind) → is_unbuilt_kind kind ≡ list_any (λ r. calls r kind && not (is_built r)) entry_points
by_kind (Call tail_word ret callee operands) = by_callee callee
by_kind _ = refl
