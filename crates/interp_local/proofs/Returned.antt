-- A return brings the caller on in the instruction that called.
use Rattle.std.proofs.Common.{◌≡◌, ℕ, suc, ◌<◌, ◌≤◌, List, [], ◌∷◌, drop, length, reverse, Option, Some, None, Ok, refl, sym, ap, ◌∙◌, subst, arith}
use Rattle.std.specs.Prelude.{IsSome}
use Rattle.std.proofs.lemmas.List.{length-reverse}
use Rattle.ir_core.specs.declared.module.Module.{Module}
use Rattle.ir_core.specs.Places.{Name}
use Rattle.mem_model.specs.declared.memory.Word.{Word}
use Rattle.mem_model.specs.declared.phase.Phase.{Phase}
use Rattle.mem_model.specs.declared.phase.Phase.TheVariants.{Begins, Published, Woken, Gathered, InRegion, HasLeft, Loops}
use Rattle.mem_model.specs.declared.phase.LoopPoint.{LoopPoint}
use Rattle.mem_model.specs.declared.phase.LoopPoint.TheVariants.{HasWorked}
use Rattle.mem_model.specs.Thread.{Frame, ThreadState, outside_region}
use Rattle.mem_model.specs.Next.{with_frames, result_of, Local, goes_in, goes_back, back_in, returns}
use Rattle.thread_state.specs.declared.state.Frame.{Frame as FrameData}
use Rattle.thread_state.specs.declared.state.StackBlock.{StackBlock}
use Rattle.thread_state.specs.declared.state.ThreadState.{ThreadState as ThreadData}
use Rattle.thread_state.specs.Seen.{frames_seen, back_in as back_by, back_seen, thread_seen, AreFrames, IsThread, IsSeen}
use Rattle.thread_state.specs.Moves.{Moves, code_in, on_innermost}
use Rattle.interp_local.specs.declared.steps.Own.TheVariants.{Went, Event}
use Rattle.interp_local.specs.Steps.{IsOwn, first_inst, inst_of, first_phase, phase_of}
use Rattle.interp_local.proofs.Begins.{FirstBegins}

count_frames : (m : Module) (own : ℕ) (stack : List StackBlock) (end : ℕ) (fs : List FrameData) → length (frames_seen m own stack end fs) ≡ length fs
count_frames m own stack end [] = refl
count_frames m own stack end (f ∷ outer) = ap suc (count_frames m own stack f.base outer)

pub count_calls : (m : Module) (s : ThreadData) → length (thread_seen m s).frames ≡ length s.frames.items
count_calls m s = count_frames m s.own s.stack.items (length s.stack.items) (reverse s.frames.items) ∙ length-reverse s.frames.items

-- the result of a call goes to the register that the caller's instruction names, where the caller begins it
pub back_of : (m : Module) (outer : List FrameData) → FirstBegins outer → back_seen m outer ≡ result_of (first_inst m outer)
back_of m [] begins = refl
back_of m (c ∷ outer) begins = ap (back_by (result_of (first_inst m (c ∷ outer)))) begins

-- ---- what is seen of the two innermost calls

first_back : List Frame → Option Name
first_back [] = None
first_back (f ∷ rest) = f.code.back

second_phase : List Frame → Phase
second_phase (f ∷ c ∷ rest) = c.code.phase
second_phase _ = Begins

pub caller_back : (m : Module) (outer : List FrameData) → back_seen m outer ≡ back_by (result_of (first_inst m outer)) (first_phase outer)
caller_back m [] = refl
caller_back m (c ∷ outer) = refl

seen_back : (m : Module) (own : ℕ) (stack : List StackBlock) (end : ℕ) (fs : List FrameData) → first_back (frames_seen m own stack end fs) ≡ back_by (result_of (first_inst m (drop 1 fs))) (first_phase (drop 1 fs))
unfolding first_back
seen_back m own stack end [] = refl
seen_back m own stack end (g ∷ outer) = caller_back m outer

seen_phase : (m : Module) (own : ℕ) (stack : List StackBlock) (end : ℕ) (fs : List FrameData) → second_phase (frames_seen m own stack end fs) ≡ first_phase (drop 1 fs)
unfolding second_phase
seen_phase m own stack end [] = refl
seen_phase m own stack end (g ∷ []) = refl
seen_phase m own stack end (g ∷ c ∷ outer) = refl

pub only_call : (m : Module) (s : ThreadData) (word : Option Word) (f : Frame) (rest : List Frame) → length s.frames.items < 2 → (thread_seen m s).frames ≡ f ∷ rest → IsOwn m s s (returns (thread_seen m s) rest f.code.back word) (Ok Event)
only_call m s word f [] few frames = refl
only_call m s word f (c ∷ rest) few frames = let size = sym (count_calls m s) ∙ ap length frames in absurd (omega arith)

module _ (m : Module) (old mid : ThreadData) (left : reverse mid.frames.items ≡ drop 1 (reverse old.frames.items)) where
  stands_by : (end : ℕ) (fs : List FrameData) → 2 ≤ length fs → AreFrames m end fs → IsSome (first_inst m (drop 1 fs))
  stands_by end [] more are = absurd (omega arith)
  stands_by end (g ∷ []) more are = absurd (omega arith)
  stands_by end (g ∷ c ∷ outer) more are = are.3.0

  -- the caller stands at an instruction
  pub stands : IsThread m old → 2 ≤ length old.frames.items → IsSome (inst_of m mid)
  stands is more =
      let size = length-reverse old.frames.items in
      subst (λ fs. IsSome (first_inst m fs)) (sym left) (stands_by (length old.stack.items) (reverse old.frames.items) (omega arith) is.0)

  -- the caller of the innermost call, as it stands once that has ended
  pub record Caller (f : Frame) (rest : List Frame) : Type 0 where
    pub call : Frame
    pub outer : List Frame
    pub rest_is : rest ≡ call ∷ outer
    pub phase_is : call.code.phase ≡ phase_of mid
    pub back_is : f.code.back ≡ back_by (result_of (inst_of m mid)) (phase_of mid)

  caller_by : (f : Frame) (rest : List Frame) → 2 ≤ length old.frames.items → (thread_seen m old).frames ≡ f ∷ rest → Caller f rest
  unfolding first_back second_phase
  caller_by f [] more frames = let size = sym (count_calls m old) ∙ ap length frames in absurd (omega arith)
  caller_by f (c ∷ outer) more frames =
      let end : ℕ = length old.stack.items in
      let fs : List FrameData = reverse old.frames.items in
      record {
        call = c;
        outer = outer;
        rest_is = refl;
        phase_is = sym (ap second_phase frames) ∙ seen_phase m old.own old.stack.items end fs ∙ ap first_phase (sym left);
        back_is = sym (ap first_back frames) ∙ seen_back m old.own old.stack.items end fs ∙ ap (λ gs. back_by (result_of (first_inst m gs)) (first_phase gs)) (sym left);
      }

  -- what a return comes to, by the caller's phase
  landed : (word : Option Word) (new : ThreadData) (f : Frame) (rest : List Frame) (c : Caller f rest) (p : Phase) → phase_of mid ≡ p
      → IsSeen m new (back_in p (thread_seen m old) c.call c.outer (back_by (result_of (inst_of m mid)) p) word) → IsOwn m old new (returns (thread_seen m old) rest f.code.back word) (Ok Went)
  landed word new f rest c p is seen =
      let t : ThreadState = thread_seen m old in
      let goes : back_in p t c.call c.outer (back_by (result_of (inst_of m mid)) p) word ≡ back_in c.call.code.phase t c.call c.outer f.code.back word =
      (λ i. back_in (sym is i) t c.call c.outer (back_by (result_of (inst_of m mid)) (sym is i)) word) ∙ (λ i. back_in (sym c.phase_is i) t c.call c.outer (sym c.back_is i) word) in
      subst (λ r. IsOwn m old new (returns t r f.code.back word) (Ok Went)) (sym c.rest_is) (seen.0, seen.1 ∙ goes)

  module _ (word : Option Word) (new : ThreadData) (f : Frame) (rest : List Frame) (more : 2 ≤ length old.frames.items) (frames : (thread_seen m old).frames ≡ f ∷ rest) (seen : IsSeen m mid (with_frames (thread_seen m old) rest)) where
    called : Caller f rest
    called = caller_by f rest more frames

    mid_frames : (thread_seen m mid).frames ≡ called.call ∷ called.outer
    mid_frames = ap (λ t. t.frames) seen.1 ∙ called.rest_is

    mid_is : thread_seen m mid ≡ with_frames (thread_seen m old) (called.call ∷ called.outer)
    mid_is = seen.1 ∙ ap (with_frames (thread_seen m old)) called.rest_is

    back_goes : (c : Frame) (outer : List Frame) (back : Option Name) (w : Option Word) → IsSeen m new (goes_back (thread_seen m mid) c outer back w) → IsSeen m new (goes_back (thread_seen m old) c outer back w)
    back_goes c outer back None goes = (goes.0, goes.1 ∙ ap (λ t. goes_back t c outer back None) seen.1)
    back_goes c outer back (Some w) goes = (goes.0, goes.1 ∙ ap (λ t. goes_back t c outer back (Some w)) seen.1)

    -- a call begins: the caller goes on behind it
    pub returned : phase_of mid ≡ Begins → ((c : Frame) (outer : List Frame) → IsThread m mid → (thread_seen m mid).frames ≡ c ∷ outer → IsSeen m new (goes_back (thread_seen m mid) c outer (result_of (inst_of m mid)) word)) → IsOwn m old new (returns (thread_seen m old) rest f.code.back word) (Ok Went)
    returned begins goes = landed word new f rest called Begins begins (back_goes called.call called.outer (result_of (inst_of m mid)) word (goes called.call called.outer seen.0 mid_frames))

    -- a wrapper has run in the runtime's own loop
    pub worked : (point : LoopPoint) → phase_of mid ≡ Loops point → Moves (code_in (Loops HasWorked)) m mid new → IsOwn m old new (returns (thread_seen m old) rest f.code.back word) (Ok Went)
    worked point is moves = landed word new f rest called (Loops point) is (moves.0, moves.1 ∙ ap (on_innermost (code_in (Loops HasWorked))) mid_is)

    -- a region has been run
    pub region_left : (then : ThreadData) → phase_of mid ≡ InRegion → Moves (code_in HasLeft) m mid then
        → (IsThread m then → IsSeen m new (record (thread_seen m then) { answers = outside_region (thread_seen m then) })) → IsOwn m old new (returns (thread_seen m old) rest f.code.back word) (Ok Went)
    region_left then is moves ends =
        let p = ends moves.0 in
        let there : thread_seen m then ≡ goes_in (thread_seen m old) called.call called.outer HasLeft = moves.1 ∙ ap (on_innermost (code_in HasLeft)) mid_is in
        landed word new f rest called InRegion is (p.0, p.1 ∙ ap (λ (t : ThreadState). record t { answers = outside_region t }) there)

    -- every other phase takes no result
    skips : (p : Phase) → (p ≡ Begins → ⊥) → ((point : LoopPoint) → p ≡ Loops point → ⊥) → (p ≡ InRegion → ⊥) → (t : ThreadState) (c : Frame) (outer : List Frame) (x : Option Name) → back_in p t c outer (back_by x p) word ≡ goes_back t c outer None word
    skips Begins a b d t c outer x = absurd (a refl)
    skips Published a b d t c outer x = refl
    skips Woken a b d t c outer x = refl
    skips Gathered a b d t c outer x = refl
    skips InRegion a b d t c outer x = absurd (d refl)
    skips HasLeft a b d t c outer x = refl
    skips (Loops point) a b d t c outer x = absurd (b point refl)

    pub skipped : (p : Phase) → phase_of mid ≡ p → (p ≡ Begins → ⊥) → ((point : LoopPoint) → p ≡ Loops point → ⊥) → (p ≡ InRegion → ⊥)
        → ((c : Frame) (outer : List Frame) → IsThread m mid → (thread_seen m mid).frames ≡ c ∷ outer → IsSeen m new (goes_back (thread_seen m mid) c outer None word)) → IsOwn m old new (returns (thread_seen m old) rest f.code.back word) (Ok Went)
    skipped p is a b d goes =
        let q = back_goes called.call called.outer None word (goes called.call called.outer seen.0 mid_frames) in
        landed word new f rest called p is (q.0, q.1 ∙ sym (skips p a b d (thread_seen m old) called.call called.outer (result_of (inst_of m mid))))
