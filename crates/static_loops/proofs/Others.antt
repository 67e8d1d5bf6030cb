-- The calls of a thread have no block of another one's stack.
use Rattle.std.proofs.Common.{◌≡◌, ℕ, ◌-◌, List, [], ◌∷◌, map, take, drop, reverse, length, false, cond, Some, None, refl, sym, ap, ◌∙◌, arith}
use Rattle.std.proofs.lemmas.Bool.Decides.{nat_tests}
use Rattle.ir_core.specs.declared.module.Module.{Module}
use Rattle.mem_model.specs.Thread.{same_spot, or_else, find_block, find_in}
use Rattle.thread_state.specs.declared.state.Frame.{Frame as FrameData}
use Rattle.thread_state.specs.declared.state.StackBlock.{StackBlock}
use Rattle.thread_state.specs.declared.state.ThreadState.{ThreadState as ThreadData}
use Rattle.thread_state.specs.Seen.{block_seen, blocks_seen, frames_seen, thread_seen}
use Rattle.thread_state.proofs.Stacks.{map-reverse}

other_spot : (own t n k : ℕ) → (t ≡ own → ⊥) → same_spot (t, n) (own, k) ≡ false
other_spot own t n k other = grind (arith, nat_tests)

none_of : (own t n : ℕ) (bs : List StackBlock) → (t ≡ own → ⊥) → find_block (map (block_seen own) bs) (t, n) ≡ None
none_of own t n [] other = refl
none_of own t n (b ∷ bs) other = ap (λ c. cond c (Some b.bytes.items) (find_block (map (block_seen own) bs) (t, n))) (other_spot own t n b.number other) ∙ none_of own t n bs other

none_of_frame : (own t n base end : ℕ) (stack : List StackBlock) → (t ≡ own → ⊥) → find_block (blocks_seen own stack base end) (t, n) ≡ None
none_of_frame own t n base end stack other =
    let bs : List StackBlock = take (end - base) (drop base stack) in
    ap (λ ys. find_block ys (t, n)) (sym (map-reverse (block_seen own) bs)) ∙ none_of own t n (reverse bs) other

none_in : (m : Module) (own t n : ℕ) (stack : List StackBlock) (end : ℕ) (fs : List FrameData) → (t ≡ own → ⊥) → find_in (frames_seen m own stack end fs) (t, n) ≡ None
none_in m own t n stack end [] other = refl
none_in m own t n stack end (f ∷ outer) other = ap (λ o. or_else o (find_in (frames_seen m own stack f.base outer) (t, n))) (none_of_frame own t n f.base end stack other) ∙ none_in m own t n stack f.base outer other

pub other_thread : (m : Module) (s : ThreadData) (t n : ℕ) → (t ≡ s.own → ⊥) → find_in (thread_seen m s).frames (t, n) ≡ None
other_thread m s t n other = none_in m s.own t n s.stack.items (length s.stack.items) (reverse s.frames.items) other
