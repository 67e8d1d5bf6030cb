-- The runtime's own loop calls a wrapper.
use Rattle.std.proofs.Common.{◌≡◌, ℕ, zero, ◌<◌, ◌≤◌, List, [], ◌∷◌, length, reverse, replicate, slice_get, Option, Some, None, Result, Ok, Err, refl, sym, ap, ◌∙◌, subst, arith}
use Rattle.std.specs.Prelude.{IsSome}
use Rattle.ir_core.specs.declared.instructions.Inst.{Inst}
use Rattle.ir_core.specs.declared.module.Module.{Module}
use Rattle.ir_core.specs.declared.module.Function.{Function}
use Rattle.ir_core.specs.Places.{inst_at, register_names, register_names_of}
use Rattle.mem_model.specs.declared.memory.Word.{Word}
use Rattle.mem_model.specs.declared.memory.Word.TheVariants.{Int}
use Rattle.mem_model.specs.declared.phase.Phase.{Phase}
use Rattle.mem_model.specs.declared.phase.Phase.TheVariants.{Begins, Loops}
use Rattle.mem_model.specs.declared.phase.LoopPoint.{LoopPoint}
use Rattle.mem_model.specs.declared.phase.LoopPoint.TheVariants.{Considers, Works}
use Rattle.mem_model.specs.Thread.{Frame, ThreadState, bound}
use Rattle.mem_model.specs.Next.{with_frames, result_of, in_phase, goes_in}
use Rattle.mem_model.specs.Regions.{params_at}
use Rattle.mem_model.specs.Work.{wrapper_frame}
use Rattle.thread_state.specs.declared.state.Frame.{Frame as FrameData}
use Rattle.thread_state.specs.declared.state.StackBlock.{StackBlock}
use Rattle.thread_state.specs.declared.state.ThreadState.{ThreadState as ThreadData}
use Rattle.thread_state.specs.Seen.{registers_seen, frames_seen, place_seen, back_in as back_by, back_seen, thread_seen, IsThread, IsSeen, IsLongInst, FirstIsLong, StandsAtLong, StandsAtCall}
use Rattle.thread_state.specs.Moves.{Moves, on_innermost, code_in}
use Rattle.thread_state.specs.Stored.{entered, HasEntered}
use Rattle.interp_local.specs.Calls.{put_words}
use Rattle.interp_local.specs.Steps.{first_inst, inst_of, first_phase, phase_of}
use Rattle.interp_local.proofs.Entered.{function_registers, params_few}
use Rattle.interp_local.proofs.Returned.{caller_back}
use Rattle.interp_local.proofs.Moved.{moved}

-- ---- what is seen of the innermost call

head_phase : List Frame → Phase
head_phase [] = Begins
head_phase (f ∷ rest) = f.code.phase

seen_phase : (m : Module) (own : ℕ) (stack : List StackBlock) (end : ℕ) (fs : List FrameData) → head_phase (frames_seen m own stack end fs) ≡ first_phase fs
unfolding head_phase
seen_phase m own stack end [] = refl
seen_phase m own stack end (f ∷ outer) = refl

pub phase_seen : (m : Module) (s : ThreadData) (f : Frame) (rest : List Frame) → (thread_seen m s).frames ≡ f ∷ rest → f.code.phase ≡ phase_of s
unfolding head_phase
phase_seen m s f rest e = sym (ap head_phase e) ∙ seen_phase m s.own s.stack.items (length s.stack.items) (reverse s.frames.items)

-- the innermost of these calls stands at an instruction that takes several steps
LongSeen : Module → List Frame → Type 0
LongSeen m [] = ⊥
LongSeen m (f ∷ rest) = IsLongInst m (inst_at m f.code.at)

long_there : (m : Module) (own : ℕ) (stack : List StackBlock) (end : ℕ) (fs : List FrameData) → (fs ≡ [] → ⊥) → FirstIsLong m fs → LongSeen m (frames_seen m own stack end fs)
unfolding LongSeen
long_there m own stack end [] some long = absurd (some refl)
long_there m own stack end (f ∷ outer) some long = long

long_back : (m : Module) (own : ℕ) (stack : List StackBlock) (end : ℕ) (fs : List FrameData) → LongSeen m (frames_seen m own stack end fs) → FirstIsLong m fs
unfolding LongSeen
long_back m own stack end [] long = absurd long
long_back m own stack end (f ∷ outer) long = long

long_frame : (m : Module) (fs : List Frame) (f : Frame) (rest : List Frame) → fs ≡ f ∷ rest → LongSeen m fs → IsLongInst m (inst_at m f.code.at)
unfolding LongSeen
long_frame m fs f rest e long = subst (LongSeen m) e long

frame_long : (m : Module) (fs : List Frame) (f : Frame) (rest : List Frame) → fs ≡ f ∷ rest → IsLongInst m (inst_at m f.code.at) → LongSeen m fs
unfolding LongSeen
frame_long m fs f rest e long = subst (LongSeen m) (sym e) long

none_seen : (m : Module) (own : ℕ) (stack : List StackBlock) (end : ℕ) (fs : List FrameData) (f : Frame) (rest : List Frame) → frames_seen m own stack end fs ≡ f ∷ rest → fs ≡ [] → ⊥
none_seen m own stack end [] f rest e none = let g : ⊥ = cc in g
none_seen m own stack end (g ∷ outer) f rest e none = let h : ⊥ = cc in h

-- a state that stands at the same instruction as one that stands at such a one
pub long_too : (m : Module) (s u : ThreadData) (f g : Frame) (rest below : List Frame) → (thread_seen m s).frames ≡ f ∷ rest → (thread_seen m u).frames ≡ g ∷ below → f.code.at ≡ g.code.at → StandsAtLong m s → StandsAtLong m u
long_too m s u f g rest below there here same long =
    let was = long_frame m (thread_seen m s).frames f rest there
    (long_there m s.own s.stack.items (length s.stack.items) (reverse s.frames.items) (none_seen m s.own s.stack.items (length s.stack.items) (reverse s.frames.items) f rest there) long) in
    long_back m u.own u.stack.items (length u.stack.items) (reverse u.frames.items) (frame_long m (thread_seen m u).frames g below here (subst (λ p. IsLongInst m (inst_at m p)) same was))

some_inst : (m : Module) (o : Option Inst) → IsLongInst m o → IsSome o
some_inst m None long = absurd long
some_inst m (Some i) long = refl

pub long_stands : (m : Module) (s : ThreadData) → StandsAtLong m s → StandsAtCall m (reverse s.frames.items)
long_stands m s long = by (reverse s.frames.items) long
  where
    by : (fs : List FrameData) → FirstIsLong m fs → StandsAtCall m fs
    by [] long = tt
    by (f ∷ outer) long = some_inst m (inst_at m (place_seen f)) long

-- ---- the wrapper's registers

wrapper_registers : (o : Option Function) (v w : Word) → registers_seen (register_names_of o) (put_words (length (params_at o)) (v ∷ w ∷ []) (replicate (length (register_names_of o)) None)) ≡ bound (params_at o) (v ∷ w ∷ [])
wrapper_registers None v w = refl
wrapper_registers (Some g) v w = function_registers (Some g) g (v ∷ w ∷ []) refl

pub params_within : (m : Module) (k : ℕ) → length (params_at (slice_get m.functions k)) ≤ length (register_names m k)
params_within m k = by_function (slice_get m.functions k)
  where
    by_function : (o : Option Function) → length (params_at o) ≤ length (register_names_of o)
    by_function None = omega arith
    by_function (Some f) = params_few (Some f) f refl

-- ---- the call

no_back : (m : Module) (fs : List FrameData) (point : LoopPoint) → first_phase fs ≡ Loops point → back_seen m fs ≡ None
no_back m fs point e = caller_back m fs ∙ ap (back_by (result_of (first_inst m fs))) e

module _ (m : Module) (old mid new : ThreadData) (wrapper : ℕ) (f : Frame) (rest : List Frame) (frames : (thread_seen m old).frames ≡ f ∷ rest) (moves : Moves (code_in (Loops Works)) m old mid) where
  mid_is : thread_seen m mid ≡ goes_in (thread_seen m old) f rest (Loops Works)
  mid_is = (moved m old mid (code_in (Loops Works)) f rest moves frames).1

  pub mid_frames : (thread_seen m mid).frames ≡ in_phase (Loops Works) f ∷ rest
  mid_frames = ap (λ t. t.frames) mid_is

  pub wrapper_goes : (values : List (Option Word)) → values ≡ put_words (length (params_at (slice_get m.functions wrapper))) (Int 0 ∷ Int old.answers.init ∷ []) (replicate (length (register_names m wrapper)) None)
      → IsSeen m new (with_frames (thread_seen m mid) (entered m wrapper values mid ∷ (thread_seen m mid).frames))
      → IsSeen m new (with_frames (thread_seen m old) (wrapper_frame m (thread_seen m old) wrapper ∷ in_phase (Loops Works) f ∷ rest))
  wrapper_goes values are seen =
      let regs : registers_seen (register_names m wrapper) values ≡ bound (params_at (slice_get m.functions wrapper)) (Int 0 ∷ Int old.answers.init ∷ []) =
      ap (registers_seen (register_names m wrapper)) are ∙ wrapper_registers (slice_get m.functions wrapper) (Int 0) (Int old.answers.init) in
      let back : back_seen m (reverse mid.frames.items) ≡ None = no_back m (reverse mid.frames.items) Works (sym (phase_seen m mid (in_phase (Loops Works) f) rest mid_frames)) in (
        seen.0,
        seen.1 ∙ (λ i. with_frames (mid_is i) (record { code = record { at = record { function = wrapper; block = 0; index = 0 }; phase = Begins; registers = regs i; back = back i }; blocks = [] } ∷ mid_frames i)),
      )

  -- without memory for it the loop stands where it stood
  pub wrapper_wants : (then : ThreadData) → phase_of old ≡ Loops (Considers zero (Some wrapper)) → IsSeen m then (thread_seen m mid) → Moves (code_in (Loops (Considers zero (Some wrapper)))) m then new → IsSeen m new (thread_seen m old)
  wrapper_wants then phase seen again =
      let q : LoopPoint = Considers zero (Some wrapper) in
      let there : (thread_seen m then).frames ≡ in_phase (Loops Works) f ∷ rest = ap (λ t. t.frames) seen.1 ∙ mid_frames in
      let s = moved m then new (code_in (Loops q)) (in_phase (Loops Works) f) rest again there in
      let is : f.code.phase ≡ Loops q = phase_seen m old f rest frames ∙ phase in (
        s.0,
        s.1 ∙ (λ i. with_frames ((seen.1 ∙ mid_is) i) (record f { code = record f.code { phase = sym is i } } ∷ rest)) ∙ (λ i. with_frames (thread_seen m old) (sym frames i)),
      )

-- ---- what entering a call answers

pub entered_ok : {U E : Type 0} (m : Module) (k : ℕ) (values : List (Option Word)) (old new : ThreadData) (r : Result U E) {u : U} → r ≡ Ok u → HasEntered m k values old new r → IsSeen m new (with_frames (thread_seen m old) (entered m k values old ∷ (thread_seen m old).frames))
entered_ok m k values old new r is h = subst (HasEntered m k values old new) is h

pub entered_err : {U E : Type 0} (m : Module) (k : ℕ) (values : List (Option Word)) (old new : ThreadData) (r : Result U E) {e : E} → r ≡ Err e → HasEntered m k values old new r → IsSeen m new (thread_seen m old)
entered_err m k values old new r is h = subst (HasEntered m k values old new) is h
