-- A block more in the innermost call.
use Rattle.std.proofs.Common.{◌≡◌, ℕ, zero, suc, ◌+◌, ◌-◌, ◌<◌, ◌≤◌, List, [], ◌∷◌, ◌++◌, map, take, drop, length, reverse, replicate, refl, sym, ap, ◌∙◌, subst, arith, slice_get, Some, length-append, length-drop}
use Rattle.std.proofs.lemmas.List.{reverse-append, map-append, drop-append-le, take_all, take-append-le}
use Rattle.ir_core.specs.declared.module.Module.{Module}
use Rattle.mem_model.specs.declared.memory.Byte.{Byte}
use Rattle.mem_model.specs.declared.memory.Byte.TheVariants.{Num}
use Rattle.mem_model.specs.Thread.{Spot, Frame}
use Rattle.mem_model.proofs.Runs.{some_injective}
use Rattle.thread_state.specs.declared.state.Frame.{Frame as FrameData}
use Rattle.thread_state.specs.declared.state.StackBlock.{StackBlock}
use Rattle.thread_state.specs.declared.state.ThreadState.{ThreadState as ThreadData}
use Rattle.thread_state.specs.Seen.{code_seen, block_seen, blocks_seen, frames_seen, answers_seen, thread_seen, AreFrames, AreBlocks, IsThread, IsSeen}
use Rattle.thread_state.proofs.Ends.{cut_frames}

-- the innermost call with a block more
add_first : Spot × List Byte → List Frame → List Frame
add_first b [] = []
add_first b (f ∷ rest) = record f { blocks = b ∷ f.blocks } ∷ rest

module _ (m : Module) (own : ℕ) (stack : List StackBlock) (b : StackBlock) where
  abbrev More : List StackBlock
  More = stack ++ b ∷ []

  blocks_more : (base : ℕ) → base ≤ length stack → blocks_seen own More base (length stack + 1) ≡ block_seen own b ∷ blocks_seen own stack base (length stack)
  blocks_more base low =
      let end : ℕ = length stack in
      let part : List StackBlock = drop base stack in
      let size = length-drop base stack in
      let whole : take (end + 1 - base) (drop base More) ≡ part ++ b ∷ [] =
      ap (take (end + 1 - base)) (drop-append-le base stack (b ∷ []) low) ∙ take_all (end + 1 - base) (part ++ b ∷ []) (omega (arith, length-append part (b ∷ []))) in
      ap (λ bs. reverse (map (block_seen own) bs)) whole
      ∙ ap reverse (map-append (block_seen own) part (b ∷ []))
      ∙ reverse-append (map (block_seen own) part) (block_seen own b ∷ [])
      ∙ ap (λ bs. block_seen own b ∷ reverse (map (block_seen own) bs)) (sym (take_all (end - base) part (omega arith)))

  outer_same : (base : ℕ) (fs : List FrameData) → base ≤ length stack → AreFrames m base fs → frames_seen m own More base fs ≡ frames_seen m own stack base fs
  outer_same base fs low are =
      let front : take (length stack) More ≡ stack = take-append-le (length stack) stack (b ∷ []) (omega arith) ∙ take_all (length stack) stack (omega arith) in
      sym (cut_frames m own More (length stack) base fs are low) ∙ ap (λ bs. frames_seen m own bs base fs) front

  more_frames : (fs : List FrameData) → AreFrames m (length stack) fs → frames_seen m own More (length stack + 1) fs ≡ add_first (block_seen own b) (frames_seen m own stack (length stack) fs)
  unfolding add_first
  more_frames [] are = refl
  more_frames (g ∷ outer) are = λ i. record { code = code_seen m outer g; blocks = blocks_more g.base are.2 i } ∷ outer_same g.base outer are.2 are.4 i

are_more : (m : Module) (end : ℕ) (fs : List FrameData) (f : Frame) (rest : List Frame) (own : ℕ) (stack : List StackBlock) → frames_seen m own stack end fs ≡ f ∷ rest → AreFrames m end fs → AreFrames m (end + 1) fs
are_more m end [] f rest own stack e are = let g : ⊥ = cc in absurd g
are_more m end (g ∷ outer) f rest own stack e are = let low = are.2 in (are.0, are.1, omega arith, are.3, are.4)

blocks_push : (low n : ℕ) (bs : List StackBlock) (b : StackBlock) → AreBlocks low bs → ((i : ℕ) (d : StackBlock) → slice_get bs i ≡ Some d → d.number < n) → low ≤ n → b.number ≡ n → AreBlocks low (bs ++ b ∷ [])
blocks_push low n [] b are below le is = (omega arith, tt)
blocks_push low n (d ∷ bs) b are below le is = let first = below 0 d refl in (are.0, blocks_push (d.number + 1) n bs b are.1 (λ i. below (suc i)) (omega arith) is)

below_push : (n : ℕ) (bs : List StackBlock) (b : StackBlock) → ((i : ℕ) (d : StackBlock) → slice_get bs i ≡ Some d → d.number < n) → b.number ≡ n → (i : ℕ) (d : StackBlock) → slice_get (bs ++ b ∷ []) i ≡ Some d → d.number < n + 1
below_push n [] b below is zero d e = let same : b.number ≡ d.number = ap (λ (v : StackBlock). v.number) (some_injective e) in omega arith
below_push n [] b below is (suc i) d e = let f : ⊥ = cc in absurd f
below_push n (c ∷ bs) b below is zero d e = let low = below 0 d e in omega arith
below_push n (c ∷ bs) b below is (suc i) d e = below_push n bs b (λ k. below (suc k)) is i d e

pub made : (m : Module) (s t : ThreadData) (b : StackBlock) (size : ℕ) (f : Frame) (rest : List Frame) → t.stack.items ≡ s.stack.items ++ b ∷ [] → t.frames ≡ s.frames → t.own ≡ s.own → t.size ≡ s.size → t.enters ≡ s.enters → t.counter ≡ s.counter + 1 → t.answers ≡ s.answers → b.number ≡ s.counter → b.bytes.items ≡ replicate size (Num 0) →
    IsThread m s → (thread_seen m s).frames ≡ f ∷ rest → IsSeen m t (record (thread_seen m s) { counter = s.counter + 1; frames = record f { blocks = ((s.own, s.counter), replicate size (Num 0)) ∷ f.blocks } ∷ rest })
unfolding add_first
made m s t b size f rest is frames own team enters counter answers number bytes thread seen =
    let stack : List StackBlock = s.stack.items in
    let end : ℕ = length stack in
    let fs : List FrameData = reverse s.frames.items in
    let long : length t.stack.items ≡ end + 1 = ap length is ∙ length-append stack (b ∷ []) in
    let now : frames_seen m t.own t.stack.items (length t.stack.items) (reverse t.frames.items) ≡ record f { blocks = ((s.own, s.counter), replicate size (Num 0)) ∷ f.blocks } ∷ rest =
    (λ i. frames_seen m (own i) (is i) (long i) (reverse (frames i).items))
    ∙ more_frames m s.own stack b fs thread.0
    ∙ ap (add_first (block_seen s.own b)) seen
    ∙ (λ i. record f { blocks = ((s.own, number i), bytes i) ∷ f.blocks } ∷ rest) in
    let are : AreFrames m (end + 1) fs = are_more m end fs f rest s.own stack seen thread.0 in
    let are_frames : AreFrames m (length t.stack.items) (reverse t.frames.items) = subst (λ n. AreFrames m n (reverse t.frames.items)) (sym long) (subst (λ v. AreFrames m (end + 1) (reverse v.items)) (sym frames) are) in
    let blocks : AreBlocks 0 t.stack.items = subst (AreBlocks 0) (sym is) (blocks_push 0 s.counter stack b thread.1 thread.2 (omega arith) number) in
    ((are_frames, blocks, λ i d e. subst (λ n. d.number < n) (sym counter) (below_push s.counter stack b thread.2 number i d (ap (λ bs. slice_get bs i) (sym is) ∙ e)), λ e. thread.3 (sym enters ∙ e)), (λ i. record { own = own i; size = team i; enters = enters i; counter = counter i; frames = now i; answers = answers_seen (answers i) }))
