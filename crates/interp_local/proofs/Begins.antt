-- Whether the innermost call begins its instruction, or is in its midst.
use Rattle.std.proofs.Common.{◌≡◌, ℕ, List, [], ◌∷◌, reverse, Option, Some, None, true, false, refl, sym, ◌∙◌, subst, inl, inr}
use Rattle.ir_core.specs.declared.instructions.Typed.{Typed}
use Rattle.ir_core.specs.declared.instructions.Kind.{Kind}
use Rattle.ir_core.specs.declared.instructions.Kind.TheVariants.{Call}
use Rattle.ir_core.specs.declared.module.Module.{Module}
use Rattle.ir_core.specs.declared.rtl.Rtl.TheVariants.{TargetInit}
use Rattle.mem_model.specs.declared.phase.Phase.{Phase}
use Rattle.mem_model.specs.declared.phase.Phase.TheVariants.{Begins, Gathered}
use Rattle.mem_model.specs.Next.{Callee, CallsEntry, callee_of}
use Rattle.thread_state.specs.declared.state.Frame.{Frame as FrameData}
use Rattle.thread_state.specs.declared.state.ThreadState.{ThreadState as ThreadData}
use Rattle.thread_state.specs.Seen.{place_seen, IsSpmdCall, IsSpmdKind, HasSpmdKernel, IsLongInst, Occurs, PhaseFits, AreFrames, IsThread, FirstIsLong, StandsAtLong}
use Rattle.interp_local.specs.Phases.{IsInMidst}
use Rattle.interp_local.specs.Steps.{IsRun, IsServed, AreServed, first_inst, inst_of, first_phase, phase_of}

-- ---- the innermost call begins its instruction

abbrev pub FirstBegins : List FrameData → Type 0
FirstBegins [] = Unit {0}
FirstBegins (f ∷ outer) = f.phase ≡ Begins

pub first_begins : (fs : List FrameData) → first_phase fs ≡ Begins → FirstBegins fs
first_begins [] e = tt
first_begins (f ∷ outer) e = e

pub thread_begins : (s : ThreadData) → phase_of s ≡ Begins → FirstBegins (reverse s.frames.items)
thread_begins s e = first_begins (reverse s.frames.items) e

-- it does where it stands at no instruction
nowhere_begins : (m : Module) (f : FrameData) → PhaseFits m f → first_inst m (f ∷ []) ≡ None → f.phase ≡ Begins
nowhere_begins m f (inl e) none = e
nowhere_begins m f (inr midst) none = absurd (subst (IsLongInst m) none midst.0)

nowhere_by : (m : Module) (end : ℕ) (fs : List FrameData) → AreFrames m end fs → first_inst m fs ≡ None → FirstBegins fs
nowhere_by m end [] are none = tt
nowhere_by m end (f ∷ outer) are none = nowhere_begins m f are.3.1 none

pub begins_nowhere : (m : Module) (s : ThreadData) → IsThread m s → inst_of m s ≡ None → FirstBegins (reverse s.frames.items)
begins_nowhere m s is none = nowhere_by m _ (reverse s.frames.items) is.0 none

begins_first : (fs : List FrameData) → FirstBegins fs → first_phase fs ≡ Begins
begins_first [] e = refl
begins_first (f ∷ outer) e = e

pub nowhere_phase : (m : Module) (s : ThreadData) → IsThread m s → inst_of m s ≡ None → phase_of s ≡ Begins
nowhere_phase m s is none = begins_first (reverse s.frames.items) (begins_nowhere m s is none)

-- ---- a module that is served has no kernel in SPMD mode

not_spmd : (operands : List Typed) (c : Callee) → IsRun operands c → IsSpmdCall operands c → ⊥
not_spmd operands (CallsEntry TargetInit) is spmd = let e : false ≡ true = sym is ∙ spmd in let f : ⊥ = cc in f
not_spmd operands _ is spmd = absurd spmd

kind_not_spmd : (m : Module) (k : Kind) → IsServed m k → IsSpmdKind m k → ⊥
kind_not_spmd m (Call tail_word ret callee operands) is spmd = not_spmd operands (callee_of m callee) is spmd
kind_not_spmd m _ is spmd = absurd spmd

pub no_spmd : (m : Module) → AreServed m → HasSpmdKernel m → ⊥
no_spmd m served has = kind_not_spmd m has.1.kind (served.kinds has.0 has.1 has.2) has.3

-- ---- the innermost call is in the midst of its instruction

pub in_midst : (m : Module) (p : Phase) → (HasSpmdKernel m → ⊥) → Occurs m p → (p ≡ Begins → ⊥) → IsInMidst p
in_midst m Begins none occurs behind = absurd (behind refl)
in_midst m Gathered none occurs behind = absurd (none occurs)
in_midst m _ none occurs behind = tt

frame_midst : (m : Module) (f : FrameData) → AreServed m → PhaseFits m f → (f.phase ≡ Begins → ⊥) → IsLongInst m (first_inst m (f ∷ [])) × IsInMidst f.phase
frame_midst m f served (inl e) behind = absurd (behind e)
frame_midst m f served (inr midst) behind = (midst.0, in_midst m f.phase (no_spmd m served) midst.1 behind)

midst_by : (m : Module) (end : ℕ) (fs : List FrameData) → AreServed m → AreFrames m end fs → (first_phase fs ≡ Begins → ⊥) → FirstIsLong m fs × IsInMidst (first_phase fs)
midst_by m end [] served are behind = absurd (behind refl)
midst_by m end (f ∷ outer) served are behind = frame_midst m f served are.3.1 behind

pub midst : (m : Module) (s : ThreadData) → AreServed m → IsThread m s → (phase_of s ≡ Begins → ⊥) → StandsAtLong m s × IsInMidst (phase_of s)
midst m s served is behind = midst_by m _ (reverse s.frames.items) served is.0 behind

long_by : (m : Module) (end : ℕ) (fs : List FrameData) → AreFrames m end fs → (first_phase fs ≡ Begins → ⊥) → FirstIsLong m fs × Occurs m (first_phase fs)
long_by m end [] are behind = absurd (behind refl)
long_by m end (f ∷ outer) are behind = by are.3.1
  where
    by : PhaseFits m f → FirstIsLong m (f ∷ outer) × Occurs m f.phase
    by (inl e) = absurd (behind e)
    by (inr midst) = midst

-- a call in the midst of its instruction stands at one that takes several steps, in a phase that occurs
pub long : (m : Module) (s : ThreadData) → IsThread m s → (phase_of s ≡ Begins → ⊥) → StandsAtLong m s × Occurs m (phase_of s)
long m s is behind = long_by m _ (reverse s.frames.items) is.0 behind
