-- What is loaded and stored in a block of the stack is loaded and stored in the calls.
use Rattle.std.proofs.Common.{◌≡◌, ℕ, zero, suc, ◌+◌, ◌<◌, ◌≤◌, List, [], ◌∷◌, map, set, length, reverse, refl, sym, ap, ◌∙◌, subst, arith, slice_get, slice_index_or, Some, None, Result, Ok, Err}
use Rattle.std.specs.Vec.{with_item}
use Rattle.std.proofs.lemmas.List.{take_all, length-set}
use Rattle.std.proofs.lemmas.Option.{slice_get_read}
use Rattle.ir_core.specs.declared.module.Module.{Module}
use Rattle.mem_model.specs.declared.memory.Byte.{Byte}
use Rattle.mem_model.specs.declared.step.Trap.{Trap}
use Rattle.mem_model.specs.Thread.{find_block, put_in}
use Rattle.mem_model.specs.Next.{with_frames}
use Rattle.mem_model.proofs.Runs.{some_injective}
use Rattle.thread_state.specs.declared.state.StackBlock.{StackBlock}
use Rattle.thread_state.specs.declared.state.ThreadState.{ThreadState as ThreadData}
use Rattle.thread_state.specs.Seen.{block_seen, frames_seen, answers_seen, thread_seen, AreFrames, AreBlocks, IsThread}
use Rattle.thread_state.specs.Stored.{IsBlockPlace, own_block, IsStored}
use Rattle.thread_state.proofs.Stacks.{find_frames, found_at, found_none, misses, put_at, put_frames}

-- the block at a place, which has a number
pub record Holds (s : ThreadData) (number at : ℕ) (b : StackBlock) : Type 0 where
  pub there : slice_get s.stack.items at ≡ Some b
  pub number_is : b.number ≡ number

pub holds : (s : ThreadData) (number at : ℕ) (xs : List StackBlock) → xs ≡ s.stack.items → IsBlockPlace xs number (Some at) → (b : StackBlock) → at < length s.stack.items → b ≡ slice_index_or s.stack.items at b → Holds s number at b
holds s number at xs is place b low read =
    let there : slice_get s.stack.items at ≡ Some b = slice_get_read s.stack.items (length s.stack.items) at b refl low read in
    let same : b ≡ place.0 = some_injective (sym there ∙ (λ i. slice_get (sym is i) at) ∙ place.1) in
    record { there = there; number_is = ap (λ c. c.number) same ∙ place.2 }

module _ (m : Module) (s : ThreadData) (is : IsThread m s) (number : ℕ) where
  in_stack : own_block m s number ≡ find_block (reverse (map (block_seen s.own) s.stack.items)) (s.own, number)
  in_stack =
      find_frames m s.own s.stack.items (s.own, number) (length s.stack.items) (reverse s.frames.items) is.0
      ∙ ap (λ bs. find_block (reverse (map (block_seen s.own) bs)) (s.own, number)) (take_all (length s.stack.items) s.stack.items (omega arith))

  pub own_at : (at : ℕ) (b : StackBlock) → Holds s number at b → own_block m s number ≡ Some b.bytes.items
  own_at at b h = in_stack ∙ found_at s.own number 0 s.stack.items at b is.1 h.there h.number_is

  pub own_none : (xs : List StackBlock) → xs ≡ s.stack.items → IsBlockPlace xs number None → own_block m s number ≡ None
  own_none xs same none = in_stack ∙ found_none s.own number s.stack.items (misses number s.stack.items (subst (λ ys. IsBlockPlace ys number None) same none))

-- ---- a block in the place of one of the same number

blocks_set : (low : ℕ) (bs : List StackBlock) (i : ℕ) (b c : StackBlock) → AreBlocks low bs → slice_get bs i ≡ Some b → b.number ≡ c.number → AreBlocks low (set bs i c)
blocks_set low [] i b c are at same = tt
blocks_set low (d ∷ bs) zero b c are at same =
    let number : d.number ≡ c.number = ap (λ e. e.number) (some_injective at) ∙ same in
    (subst (λ n. low ≤ n) number are.0, subst (λ n. AreBlocks (n + 1) bs) number are.1)
blocks_set low (d ∷ bs) (suc i) b c are at same = (are.0, blocks_set (d.number + 1) bs i b c are.1 at same)

numbers_set : (n : ℕ) (bs : List StackBlock) (at : ℕ) (b c : StackBlock) → slice_get bs at ≡ Some b → b.number ≡ c.number → ((i : ℕ) (d : StackBlock) → slice_get bs i ≡ Some d → d.number < n) → (i : ℕ) (d : StackBlock) → slice_get (set bs at c) i ≡ Some d → d.number < n
numbers_set n [] at b c there same low i d is = low i d is
numbers_set n (e ∷ bs) zero b c there same low zero d is =
    let first = low 0 b there in
    let number : d.number ≡ c.number = ap (λ x. x.number) (some_injective (sym is)) in
    omega arith
numbers_set n (e ∷ bs) zero b c there same low (suc i) d is = low (suc i) d is
numbers_set n (e ∷ bs) (suc at) b c there same low zero d is = low 0 d is
numbers_set n (e ∷ bs) (suc at) b c there same low (suc i) d is = numbers_set n bs at b c there same (λ j. low (suc j)) i d is

-- ---- a store

abbrev pub with_block : ThreadData → ℕ → StackBlock → ThreadData
with_block s at c = record s { stack = with_item s.stack at c }

pub stored : (m : Module) (s : ThreadData) → IsThread m s → (number at : ℕ) (b c : StackBlock) → Holds s number at b → c.number ≡ b.number → IsThread m (with_block s at c) × (thread_seen m (with_block s at c) ≡ with_frames (thread_seen m s) (put_in (s.own, number) c.bytes.items (thread_seen m s).frames))
stored m s is number at b c h same =
    let stack : List StackBlock = s.stack.items in
    let new : List StackBlock = set stack at c in
    let size : length new ≡ length stack = length-set stack at c in
    let fs = reverse s.frames.items in
    let put = put_at s.own number c.bytes.items 0 stack at b c is.1 h.there h.number_is (same ∙ h.number_is) refl in
    let seen : frames_seen m s.own new (length new) fs ≡ put_in (s.own, number) c.bytes.items (frames_seen m s.own stack (length stack) fs) =
    ap (λ n. frames_seen m s.own new n fs) size ∙ put_frames m s.own (s.own, number) c.bytes.items stack new put (length stack) fs in (
      (subst (λ n. AreFrames m n fs) (sym size) is.0, blocks_set 0 stack at b c is.1 h.there (sym same), numbers_set s.counter stack at b c h.there (sym same) is.2, is.3),
      (λ i. record { own = s.own; size = s.size; enters = s.enters; counter = s.counter; frames = seen i; answers = answers_seen s.answers }),
    )

-- ---- what a store answers

pub same_block : (s : ThreadData) (number at : ℕ) (b c : StackBlock) → Holds s number at b → Holds s number at c → b ≡ c
same_block s number at b c h g = some_injective (sym h.there ∙ g.there)

pub answers_ok : (m : Module) (s t : ThreadData) (number : ℕ) (r : Result (List Byte) Trap) (bytes : List Byte) → r ≡ Ok bytes → IsThread m t × (thread_seen m t ≡ with_frames (thread_seen m s) (put_in (s.own, number) bytes (thread_seen m s).frames)) → IsStored {U = Unit {0}} r m number s t (Ok tt)
answers_ok m s t number r bytes e it = subst (λ x. IsStored {U = Unit {0}} x m number s t (Ok tt)) (sym e) (refl, it.0, it.1)

pub answers_err : (m : Module) (s : ThreadData) (number : ℕ) (r : Result (List Byte) Trap) (trap : Trap) (result : Result (Unit {0}) Trap) → r ≡ Err trap → result ≡ Err trap → IsStored {U = Unit {0}} r m number s s result
answers_err m s number r trap result e is = subst (λ x. IsStored {U = Unit {0}} x m number s s result) (sym e) (is, refl)
