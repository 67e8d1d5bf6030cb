-- The innermost call ends with its blocks, and nothing else changes.
use Rattle.std.proofs.Common.{◌≡◌, ℕ, zero, suc, ◌+◌, ◌-◌, ◌<◌, ◌≤◌, List, [], ◌∷◌, ◌++◌, map, take, drop, length, reverse, refl, sym, ap, ◌∙◌, subst, arith, slice_get, Some}
use Rattle.std.proofs.lemmas.List.{take-take, drop-take, length-take-le, reverse-append}
use Rattle.ir_core.specs.declared.module.Module.{Module}
use Rattle.mem_model.specs.Thread.{Frame}
use Rattle.mem_model.specs.Next.{with_frames}
use Rattle.thread_state.specs.declared.state.Frame.{Frame as FrameData}
use Rattle.thread_state.specs.declared.state.StackBlock.{StackBlock}
use Rattle.thread_state.specs.declared.state.ThreadState.{ThreadState as ThreadData}
use Rattle.thread_state.specs.Seen.{code_seen, block_seen, blocks_seen, frames_seen, answers_seen, thread_seen, AreFrames, AreBlocks, IsThread, IsSeen}

-- ---- a stack without the blocks above a place

module _ (m : Module) (own : ℕ) (stack : List StackBlock) (b : ℕ) where
  cut_blocks : (base end : ℕ) → base ≤ end → end ≤ b → blocks_seen own (take b stack) base end ≡ blocks_seen own stack base end
  cut_blocks base end low high =
      let whole : b ≡ base + (b - base) = omega arith in
      ap (λ bs. reverse (map (block_seen own) (take (end - base) bs))) (ap (λ n. drop base (take n stack)) whole ∙ drop-take base (b - base) stack)
      ∙ ap (λ bs. reverse (map (block_seen own) bs)) (take-take (end - base) (b - base) (drop base stack) (omega arith))

  pub cut_frames : (end : ℕ) (fs : List FrameData) → AreFrames m end fs → end ≤ b → frames_seen m own (take b stack) end fs ≡ frames_seen m own stack end fs
  cut_frames end [] are high = refl
  cut_frames end (f ∷ outer) are high =
      let low = are.2 in λ i. record { code = code_seen m outer f; blocks = cut_blocks f.base end low high i } ∷ cut_frames f.base outer are.4 (omega arith) i

blocks_take : (low n : ℕ) (bs : List StackBlock) → AreBlocks low bs → AreBlocks low (take n bs)
blocks_take low zero bs are = tt
blocks_take low (suc n) [] are = tt
blocks_take low (suc n) (b ∷ bs) are = (are.0, blocks_take (b.number + 1) n bs are.1)

get_take : (n i : ℕ) (bs : List StackBlock) (b : StackBlock) → slice_get (take n bs) i ≡ Some b → slice_get bs i ≡ Some b
get_take zero i bs b e = let f : ⊥ = cc in absurd f
get_take (suc n) i [] b e = e
get_take (suc n) zero (c ∷ bs) b e = e
get_take (suc n) (suc i) (c ∷ bs) b e = get_take n i bs b e

tail_of : List Frame → List Frame
tail_of [] = []
tail_of (f ∷ rest) = rest

-- ---- the innermost call ends

pub left : (m : Module) (s t : ThreadData) (g : FrameData) (front : List FrameData) → s.frames.items ≡ front ++ g ∷ [] → t.frames.items ≡ front → t.stack.items ≡ take g.base s.stack.items → t.own ≡ s.own → t.size ≡ s.size → t.enters ≡ s.enters → t.counter ≡ s.counter → t.answers ≡ s.answers →
    (f : Frame) (rest : List Frame) → IsThread m s → (thread_seen m s).frames ≡ f ∷ rest → IsSeen m t (with_frames (thread_seen m s) rest)
unfolding tail_of
left m s t g front was is cut own team enters counter answers f rest thread frames =
    let stack : List StackBlock = s.stack.items in
    let end : ℕ = length stack in
    let fs : List FrameData = reverse front in
    let order : reverse s.frames.items ≡ g ∷ fs = ap reverse was ∙ reverse-append front (g ∷ []) in
    let are : AreFrames m end (g ∷ fs) = subst (AreFrames m end) order thread.0 in
    let base = are.2 in
    let size : length t.stack.items ≡ g.base = ap length cut ∙ length-take-le g.base stack base in
    let outer : rest ≡ frames_seen m s.own stack g.base fs = ap tail_of (sym frames ∙ ap (frames_seen m s.own stack end) order) in
    let seen : frames_seen m t.own t.stack.items (length t.stack.items) (reverse t.frames.items) ≡ rest =
    (λ i. frames_seen m (own i) (cut i) (size i) (reverse (is i))) ∙ cut_frames m s.own stack g.base g.base fs are.4 (omega arith) ∙ sym outer in
    let blocks : AreBlocks 0 t.stack.items = subst (AreBlocks 0) (sym cut) (blocks_take 0 g.base stack thread.1) in
    let numbers : (i : ℕ) (b : StackBlock) → slice_get t.stack.items i ≡ Some b → b.number < t.counter =
    λ i b e. subst (λ n. b.number < n) (sym counter) (thread.2 i b (get_take g.base i stack b (ap (λ bs. slice_get bs i) (sym cut) ∙ e))) in
    let frames_are : AreFrames m (length t.stack.items) (reverse t.frames.items) = subst (λ n. AreFrames m n (reverse t.frames.items)) (sym size) (subst (λ xs. AreFrames m g.base (reverse xs)) (sym is) are.4) in
    ((frames_are, blocks, numbers, λ e. thread.3 (sym enters ∙ e)), (λ i. record { own = own i; size = team i; enters = enters i; counter = counter i; frames = seen i; answers = answers_seen (answers i) }))
