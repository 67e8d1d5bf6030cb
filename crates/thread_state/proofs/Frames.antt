-- The innermost call replaced by one that stands for it moved on.
use Rattle.std.proofs.Common.{◌≡◌, ℕ, ◌+◌, ◌-◌, ◌<◌, ◌≤◌, List, [], ◌∷◌, ◌++◌, take, set, length, reverse, refl, sym, ap, ◌∙◌, subst, arith, slice_set, slice_index_or, Option}
use Rattle.std.proofs.lemmas.List.{take_more, take_more_set, take_all, reverse-append, length-set}
use Rattle.ir_core.specs.declared.module.Module.{Module}
use Rattle.std.specs.Vec.{with_item}
use Rattle.ir_core.specs.Places.{Name, register_names, inst_at}
use Rattle.mem_model.specs.Thread.{Code, Frame, ThreadState}
use Rattle.thread_state.specs.declared.state.Frame.{Frame as FrameData}
use Rattle.thread_state.specs.declared.state.StackBlock.{StackBlock}
use Rattle.thread_state.specs.declared.state.ThreadState.{ThreadState as ThreadData}
use Rattle.thread_state.specs.Seen.{code_seen, blocks_seen, frames_seen, answers_seen, thread_seen, place_seen, IsLongInst, FirstIsLong, StandsAtLong, PhaseFits, AreFrames, IsThread, IsSeen}
use Rattle.thread_state.specs.Moves.{first_names, names_of, first_room, room_of, on_first, on_innermost, IsPlaceOf, Moves}

-- ---- the last of a list

-- lists that are the same but for their last item
pub record Ends {X : Type 0} (xs ys : List X) (x y : X) : Type 0 where
  pub front : List X
  pub was : reverse xs ≡ x ∷ front
  pub is : reverse ys ≡ y ∷ front

pub last_set : {X : Type 0} (xs : List X) (n : ℕ) (x y : X) → 0 < n → n ≡ length xs → x ≡ slice_index_or xs (n - 1) x → Ends xs (slice_set xs (n - 1) y) x y
last_set xs n x y some is at =
    let i : ℕ = n - 1 in
    let low : i < length xs = omega arith in
    let whole : i + 1 ≡ length xs = omega arith in
    let whole_set : i + 1 ≡ length (set xs i y) = whole ∙ sym (length-set xs i y) in
    let old : xs ≡ take i xs ++ x ∷ [] = sym (take_all (i + 1) xs (omega arith)) ∙ take_more xs i x low ∙ ap (λ z. take i xs ++ z ∷ []) (sym at) in
    let new : set xs i y ≡ take i xs ++ y ∷ [] = sym (take_all (i + 1) (set xs i y) (omega arith)) ∙ take_more_set xs i y low in
    record { front = reverse (take i xs); was = ap reverse old ∙ reverse-append (take i xs) (x ∷ []); is = ap reverse new ∙ reverse-append (take i xs) (y ∷ []) }

-- ---- a call in the place of another

pub record Replaces (m : Module) (go : Code → Code) (f g : FrameData) : Type 0 where
  pub size : length g.registers ≡ length f.registers
  pub room : length g.room ≡ length f.room
  pub function : g.function ≡ f.function
  pub base : g.base ≡ f.base
  pub fits : PhaseFits m f → PhaseFits m g
  pub code : length f.registers ≡ length (register_names m f.function) → (outer : List FrameData) → code_seen m outer g ≡ go (code_seen m outer f)

module _ (m : Module) (go : Code → Code) (f g : FrameData) (r : Replaces m go f g) where
  pub are_frames : (end : ℕ) (outer : List FrameData) → AreFrames m end (f ∷ outer) → AreFrames m end (g ∷ outer)
  are_frames end outer are = (
    r.size ∙ are.0 ∙ ap (λ k. length (register_names m k)) (sym r.function),
    r.room ∙ are.1 ∙ ap (λ k. length (register_names m k)) (sym r.function),
    subst (λ b. b ≤ end) (sym r.base) are.2,
    (are.3.0, r.fits are.3.1),
    subst (λ b. AreFrames m b outer) (sym r.base) are.4,
  )

  pub seen_frames : (own : ℕ) (stack : List StackBlock) (end : ℕ) (outer : List FrameData) → AreFrames m end (f ∷ outer) → frames_seen m own stack end (g ∷ outer) ≡ on_first go (frames_seen m own stack end (f ∷ outer))
  seen_frames own stack end outer are = λ i. record { code = r.code are.0 outer i; blocks = blocks_seen own stack (r.base i) end } ∷ frames_seen m own stack (r.base i) outer

-- the state with the last call replaced
abbrev pub with_last : ThreadData → FrameData → ThreadData
with_last s g = record s { frames = with_item s.frames (s.frames.len - 1) g }

module _ (s : ThreadData) (f : FrameData) (some : 0 < s.frames.len) (size : s.frames.len ≡ length s.frames.items) (at : f ≡ slice_index_or s.frames.items (s.frames.len - 1) f) where
  ends : (g : FrameData) → Ends s.frames.items (slice_set s.frames.items (s.frames.len - 1) g) f g
  ends g = last_set s.frames.items s.frames.len f g some size at

  -- a place among the names of the innermost call's registers
  pub innermost_place : (m : Module) (x : Option Name) (register : Option ℕ) → IsPlaceOf (names_of m s) x register → IsPlaceOf (register_names m f.function) x register
  innermost_place m x register = subst (λ fs. IsPlaceOf (first_names m fs) x register) (ends f).was

  pub innermost_long : (m : Module) → StandsAtLong m s → IsLongInst m (inst_at m (place_seen f))
  innermost_long m = subst (FirstIsLong m) (ends f).was

  pub room_with : (g : FrameData) → room_of (with_last s g) ≡ g.room
  room_with g = ap first_room (ends g).is

  pub room_was : room_of s ≡ f.room
  room_was = ap first_room (ends f).was

  pub names_with : (m : Module) (g : FrameData) → g.function ≡ f.function → names_of m (with_last s g) ≡ names_of m s
  names_with m g same = ap (first_names m) (ends g).is ∙ ap (register_names m) same ∙ sym (ap (first_names m) (ends g).was)

  pub replaced : (m : Module) (go : Code → Code) (g : FrameData) → Replaces m go f g → IsThread m s → Moves go m s (with_last s g)
  replaced m go g r is =
      let e = ends g in
      let end : ℕ = length s.stack.items in
      let are : AreFrames m end (f ∷ e.front) = subst (AreFrames m end) e.was is.0 in
      let seen : List FrameData → ThreadState = λ fs. record { own = s.own; size = s.size; enters = s.enters; counter = s.counter; frames = frames_seen m s.own s.stack.items end fs; answers = answers_seen s.answers } in
      let moved : thread_seen m (with_last s g) ≡ on_innermost go (thread_seen m s) =
      ap seen e.is
      ∙ (λ i. record { own = s.own; size = s.size; enters = s.enters; counter = s.counter; frames = seen_frames m go f g r s.own s.stack.items end e.front are i; answers = answers_seen s.answers })
      ∙ ap (λ fs. on_innermost go (seen fs)) (sym e.was) in
      ((subst (AreFrames m end) (sym e.is) (are_frames m go f g r end e.front are), is.1, is.2, is.3), moved)

-- ---- a call that stands for the same

same_first : (fs : List Frame) → on_first (λ c. c) fs ≡ fs
same_first [] = refl
same_first (f ∷ rest) = refl

pub same_seen : (m : Module) (old new : ThreadData) → Moves (λ c. c) m old new → IsSeen m new (thread_seen m old)
same_seen m old new h = (h.0, h.1 ∙ ap (λ fs. record (thread_seen m old) { frames = fs }) (same_first (thread_seen m old).frames))
