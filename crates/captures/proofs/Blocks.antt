-- The blocks of a thread's stack, as loads find them.
use Rattle.std.proofs.Common.{◌≡◌, ◌⊎◌, inl, inr, ℕ, zero, suc, ◌-◌, ◌^◌, ◌<◌, List, [], ◌∷◌, map, take, drop, reverse, length, false, Some, None, refl, sym, ap, ◌∙◌, subst, arith, cond}
use Rattle.std.proofs.lemmas.Bool.Decides.{nat_tests}
use Rattle.std.proofs.lemmas.Bool.{cases_eq}
use Rattle.ir_core.specs.declared.module.Module.{Module}
use Rattle.mem_model.specs.declared.memory.Byte.{Byte}
use Rattle.mem_model.specs.Thread.{same_spot, or_else, find_block, find_in}
use Rattle.mem_model.proofs.Runs.{some_injective}
use Rattle.thread_state.specs.declared.state.Frame.{Frame as FrameData}
use Rattle.thread_state.specs.declared.state.StackBlock.{StackBlock}
use Rattle.thread_state.specs.declared.state.ThreadState.{ThreadState as ThreadData}
use Rattle.thread_state.specs.Seen.{block_seen, blocks_seen, frames_seen, thread_seen, IsThread}
use Rattle.thread_state.specs.Stored.{IsBlockPlace, own_block}
use Rattle.thread_state.proofs.Stacks.{map-reverse}
use Rattle.thread_state.proofs.Held.{own_at, own_none}
use Rattle.captures.specs.Words.{AreShort}

-- ---- blocks of other threads

other_spot : (own t n k : ℕ) → (t ≡ own → ⊥) → same_spot (t, n) (own, k) ≡ false
other_spot own t n k other = grind (arith, nat_tests)

none_of : (own t n : ℕ) (bs : List StackBlock) → (t ≡ own → ⊥) → find_block (map (block_seen own) bs) (t, n) ≡ None
none_of own t n [] other = refl
none_of own t n (b ∷ bs) other = ap (λ c. cond c (Some b.bytes.items) (find_block (map (block_seen own) bs) (t, n))) (other_spot own t n b.number other) ∙ none_of own t n bs other

none_of_frame : (own t n base end : ℕ) (stack : List StackBlock) → (t ≡ own → ⊥) → find_block (blocks_seen own stack base end) (t, n) ≡ None
none_of_frame own t n base end stack other =
    let bs : List StackBlock = take (end - base) (drop base stack) in
    ap (λ ys. find_block ys (t, n)) (sym (map-reverse (block_seen own) bs)) ∙ none_of own t n (reverse bs) other

none_in : (m : Module) (own t n : ℕ) (stack : List StackBlock) (end : ℕ) (fs : List FrameData) → (t ≡ own → ⊥) → find_in (frames_seen m own stack end fs) (t, n) ≡ None
none_in m own t n stack end [] other = refl
none_in m own t n stack end (f ∷ outer) other = ap (λ o. or_else o (find_in (frames_seen m own stack f.base outer) (t, n))) (none_of_frame own t n f.base end stack other) ∙ none_in m own t n stack f.base outer other

-- no call of a thread has a block of another one
pub other_thread : (m : Module) (s : ThreadData) (t n : ℕ) → (t ≡ s.own → ⊥) → find_in (thread_seen m s).frames (t, n) ≡ None
other_thread m s t n other = none_in m s.own t n s.stack.items (length s.stack.items) (reverse s.frames.items) other

pub own_found : (m : Module) (s : ThreadData) (t n : ℕ) → t ≡ s.own → own_block m s n ≡ find_in (thread_seen m s).frames (t, n)
own_found m s t n same = ap (λ own. find_in (thread_seen m s).frames (own, n)) (sym same)

-- ---- blocks that aren't longer than offsets tell

abbrev HasPlace : List StackBlock → ℕ → Type 0
HasPlace bs number = ((at : ℕ) × IsBlockPlace bs number (Some at)) ⊎ IsBlockPlace bs number None

none_before : (b : StackBlock) (bs : List StackBlock) (number : ℕ) → (b.number ≡ number → ⊥) → IsBlockPlace bs number None → IsBlockPlace (b ∷ bs) number None
none_before b bs number other none zero c there same = other (ap (λ (x : StackBlock). x.number) (some_injective there) ∙ same)
none_before b bs number other none (suc at) c there same = none at c there same

behind : (b : StackBlock) (bs : List StackBlock) (number : ℕ) → (b.number ≡ number → ⊥) → HasPlace bs number → HasPlace (b ∷ bs) number
behind b bs number other (inl p) = inl (suc p.0, p.1)
behind b bs number other (inr none) = inr (none_before b bs number other none)

first : (b : StackBlock) (bs : List StackBlock) (number : ℕ) → HasPlace bs number → (b.number ≡ number) ⊎ (b.number ≡ number → ⊥) → HasPlace (b ∷ bs) number
first b bs number rest (inl same) = inl (zero, (b, refl, same))
first b bs number rest (inr other) = behind b bs number other rest

has_place : (bs : List StackBlock) (number : ℕ) → HasPlace bs number
has_place [] number = inr (λ at b there same. let f : ⊥ = cc in absurd f)
has_place (b ∷ bs) number = first b bs number (has_place bs number) (cases_eq b.number number)

short_at : (m : Module) (s : ThreadData) (number : ℕ) (bytes : List Byte) → IsThread m s → AreShort s.stack.items → own_block m s number ≡ Some bytes → HasPlace s.stack.items number → length bytes < 2 ^ 63
short_at m s number bytes is short found (inl (at, (b, there, same))) =
    subst (λ (xs : List Byte). length xs < 2 ^ 63) (some_injective (sym (own_at m s is number at b (record { there = there; number_is = same })) ∙ found)) (short at b there)
short_at m s number bytes is short found (inr none) =
    let missing = own_none m s is number s.stack.items refl none in
    let f : ⊥ = cc in absurd f

-- a block of the own stack is that short
own_short : (m : Module) (s : ThreadData) (number : ℕ) → IsThread m s → AreShort s.stack.items → (bytes : List Byte) → own_block m s number ≡ Some bytes → length bytes < 2 ^ 63
own_short m s number is short bytes found = short_at m s number bytes is short found (has_place s.stack.items number)

short_in : (m : Module) (s : ThreadData) (t n : ℕ) → IsThread m s → AreShort s.stack.items → (bytes : List Byte) → find_in (thread_seen m s).frames (t, n) ≡ Some bytes → (t ≡ s.own) ⊎ (t ≡ s.own → ⊥) → length bytes < 2 ^ 63
short_in m s t n is short bytes found (inl same) = own_short m s n is short bytes (own_found m s t n same ∙ found)
short_in m s t n is short bytes found (inr other) = let missing = other_thread m s t n other in let f : ⊥ = cc in absurd f

-- so is each that is found
pub spot_short : (m : Module) (s : ThreadData) (t n : ℕ) → IsThread m s → AreShort s.stack.items → (bytes : List Byte) → find_in (thread_seen m s).frames (t, n) ≡ Some bytes → length bytes < 2 ^ 63
spot_short m s t n is short bytes found = short_in m s t n is short bytes found (cases_eq t s.own)
