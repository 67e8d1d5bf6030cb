-- Own steps of the innermost call, from what the calls on a thread's state say.
use Rattle.std.proofs.Common.{◌≡◌, ℕ, ◌+◌, ◌≤◌, pos, List, [], ◌∷◌, map, take, drop, reverse, replicate, ◌-◌, true, false, Option, Some, None, Result, Ok, Err, refl, sym, ap, ◌∙◌, subst, arith, cond, length}
use Rattle.std.specs.Prelude.{nat_le, if◌then◌else◌}
use Rattle.std.proofs.lemmas.Bool.{le-leb}
use Rattle.ir_core.specs.Places.{Name}
use Rattle.mem_model.specs.declared.memory.BlockName.TheVariants.{Stack}
use Rattle.mem_model.specs.declared.memory.Byte.TheVariants.{Num}
use Rattle.mem_model.specs.declared.memory.Ptr.TheVariants.{At}
use Rattle.mem_model.specs.declared.memory.Word.{Word}
use Rattle.mem_model.specs.declared.memory.Word.TheVariants.{Ptr as Address}
use Rattle.mem_model.specs.declared.step.Trap.TheVariants.{TooLarge}
use Rattle.mem_model.specs.Memory.{block_limit}
use Rattle.std.proofs.lemmas.Bool.Decides.{nat_tests}
use Rattle.ir_core.specs.declared.module.Module.{Module}
use Rattle.mem_model.specs.declared.memory.Byte.{Byte}
use Rattle.mem_model.specs.declared.step.Trap.{Trap}
use Rattle.mem_model.specs.Thread.{Code, Frame, same_spot, or_else, find_block, find_in, put_in}
use Rattle.mem_model.specs.Next.{NextStep, Local, Trapped, with_found, with_frames, code_on, code_past, allocates}
use Rattle.thread_state.specs.declared.state.Frame.{Frame as FrameData}
use Rattle.thread_state.specs.declared.state.StackBlock.{StackBlock}
use Rattle.thread_state.specs.declared.state.ThreadState.{ThreadState as ThreadData}
use Rattle.thread_state.specs.Seen.{block_seen, blocks_seen, frames_seen, thread_seen, IsThread, IsSeen}
use Rattle.thread_state.specs.Moves.{names_of, on_first, on_innermost, IsPlaceOf, Moves}
use Rattle.thread_state.specs.Stored.{own_block, IsStored}
use Rattle.thread_state.proofs.Stacks.{map-reverse}
use Rattle.interp_local.specs.declared.steps.Own.{Own}
use Rattle.interp_local.specs.declared.steps.Own.TheVariants.{Went}
use Rattle.interp_local.specs.Steps.{IsOwn, Knows}

-- ---- what was found

pub went : {A : Type 0} (m : Module) (old new : ThreadData) (r : Result A Trap) (go : A → NextStep) (a : A) → r ≡ Ok a → IsOwn m old new (go a) (Ok Went) → IsOwn m old new (with_found r go) (Ok Went)
went m old new r go a e h = subst (λ x. IsOwn m old new (with_found x go) (Ok Went)) (sym e) h

pub trapped : {A : Type 0} (m : Module) (s : ThreadData) (r : Result A Trap) (go : A → NextStep) (e : Trap) (result : Result Own Trap) → IsThread m s → r ≡ Err e → result ≡ Err e → IsOwn m s s (with_found r go) result
trapped m s r go e result thread is same =
    subst (λ x. IsOwn m s s (with_found r go) x) (sym same) (subst (λ x. IsOwn m s s (with_found x go) (Err e)) (sym is) (refl, (thread, refl)))

-- ---- the innermost call moved on

pub moved : (m : Module) (old new : ThreadData) (go : Code → Code) (f : Frame) (rest : List Frame) → Moves go m old new → (thread_seen m old).frames ≡ f ∷ rest → IsThread m new × (thread_seen m new ≡ with_frames (thread_seen m old) (record f { code = go f.code } ∷ rest))
moved m old new go f rest h frames = (h.0, h.1 ∙ ap (λ fs. with_frames (thread_seen m old) (on_first go fs)) frames)

-- ---- blocks of other threads

other_spot : (own t n k : ℕ) → (t ≡ own → ⊥) → same_spot (t, n) (own, k) ≡ false
other_spot own t n k other = grind (arith, nat_tests)

none_of : (own t n : ℕ) (bs : List StackBlock) → (t ≡ own → ⊥) → find_block (map (block_seen own) bs) (t, n) ≡ None
none_of own t n [] other = refl
none_of own t n (b ∷ bs) other = ap (λ c. cond c (Some b.bytes.items) (find_block (map (block_seen own) bs) (t, n))) (other_spot own t n b.number other) ∙ none_of own t n bs other

none_of_frame : (own t n base end : ℕ) (stack : List StackBlock) → (t ≡ own → ⊥) → find_block (blocks_seen own stack base end) (t, n) ≡ None
none_of_frame own t n base end stack other =
    let bs : List StackBlock = take (end - base) (drop base stack) in
    ap (λ ys. find_block ys (t, n)) (sym (map-reverse (block_seen own) bs)) ∙ none_of own t n (reverse bs) other

none_in : (m : Module) (own t n : ℕ) (stack : List StackBlock) (end : ℕ) (fs : List FrameData) → (t ≡ own → ⊥) → find_in (frames_seen m own stack end fs) (t, n) ≡ None
none_in m own t n stack end [] other = refl
none_in m own t n stack end (f ∷ outer) other = ap (λ o. or_else o (find_in (frames_seen m own stack f.base outer) (t, n))) (none_of_frame own t n f.base end stack other) ∙ none_in m own t n stack f.base outer other

-- no call of a thread has a block of another one
pub other_thread : (m : Module) (s : ThreadData) (t n : ℕ) (f : Frame) (rest : List Frame) → (thread_seen m s).frames ≡ f ∷ rest → (t ≡ s.own → ⊥) → find_in (f ∷ rest) (t, n) ≡ None
other_thread m s t n f rest frames other = ap (λ fs. find_in fs (t, n)) (sym frames) ∙ none_in m s.own t n s.stack.items (length s.stack.items) (reverse s.frames.items) other

pub own_found : (m : Module) (s : ThreadData) (t n : ℕ) (f : Frame) (rest : List Frame) → (thread_seen m s).frames ≡ f ∷ rest → t ≡ s.own → own_block m s n ≡ find_in (f ∷ rest) (t, n)
own_found m s t n f rest frames same = λ i. find_in (frames i) (sym same i, n)

-- ---- a store, and then the next instruction

stored_ok : {U : Type 0} (m : Module) (number : ℕ) (old mid : ThreadData) (r : Result (List Byte) Trap) (u : U) → IsStored r m number old mid (Ok u) → (bytes : List Byte) × (r ≡ Ok bytes) × IsThread m mid × (thread_seen m mid ≡ with_frames (thread_seen m old) (put_in (old.own, number) bytes (thread_seen m old).frames))
stored_ok m number old mid (Ok bytes) u h = (bytes, refl, h.1, h.2)
stored_ok m number old mid (Err e) u h = let q = h.0 in let f : ⊥ = cc in absurd f

stored_err : (U : Type 0) (m : Module) (number : ℕ) (old mid : ThreadData) (r : Result (List Byte) Trap) (e : Trap) → IsStored {U = U} r m number old mid (Err e) → (r ≡ Err e) × (mid ≡ old)
stored_err U m number old mid (Ok bytes) e h = let q = h.0 in let f : ⊥ = cc in absurd f
stored_err U m number old mid (Err x) e h = (ap Err (let q = h.0 in let same : x ≡ e = cc in same), h.1)

pub not_stored : (U : Type 0) (m : Module) (t number : ℕ) (old mid : ThreadData) (r : Result (List Byte) Trap) (go : List Byte → NextStep) (e : Trap) (result : Result Own Trap) → IsThread m old → IsStored {U = U} r m number old mid (Err e) → result ≡ Err e → IsOwn m old mid (with_found r go) result
not_stored U m t number old mid r go e result thread h same =
    let p = stored_err U m number old mid r e h in
    subst (λ s. IsOwn m old s (with_found r go) result) (sym p.1) (trapped m old r go e result thread p.0 same)

pub stored : {U : Type 0} (m : Module) (t number : ℕ) (old mid new : ThreadData) (r : Result (List Byte) Trap) (u : U) (f : Frame) (rest : List Frame) → (thread_seen m old).frames ≡ f ∷ rest → t ≡ old.own → IsStored r m number old mid (Ok u) → (IsThread m mid → Moves code_past m mid new) →
    IsOwn m old new (with_found r (λ bytes. Local (with_frames (thread_seen m old) (put_in (t, number) bytes (record f { code = code_past f.code } ∷ rest))))) (Ok Went)
stored m t number old mid new r u f rest frames same h goes =
    let p = stored_ok m number old mid r u h in
    let q = goes p.2 in
    let seen : thread_seen m new ≡ with_frames (thread_seen m old) (put_in (t, number) p.0 (record f { code = code_past f.code } ∷ rest)) =
    q.1 ∙ ap (on_innermost code_past) p.3 ∙ (λ i. with_frames (thread_seen m old) (on_first code_past (put_in (sym same i, number) p.0 (frames i)))) in
    went m old new r _ p.0 p.1 (q.0, seen)

-- ---- a new block of the stack

pub allocated : (m : Module) (s mid new : ThreadData) (x : Option Name) (register : Option ℕ) (size : ℕ) (f : Frame) (rest : List Frame) → Knows m s x register f rest → size ≤ block_limit → names_of m mid ≡ names_of m s →
    IsSeen m mid (record (thread_seen m s) { counter = s.counter + 1; frames = record f { blocks = ((s.own, s.counter), replicate size (Num 0)) ∷ f.blocks } ∷ rest }) →
    (IsThread m mid → IsPlaceOf (names_of m mid) x register → Moves (λ c. code_on c x (Address (At (Stack s.own s.counter) (pos 0)))) m mid new) → IsOwn m s new (allocates (thread_seen m s) f rest x size) (Ok Went)
allocated m s mid new x register size f rest k low same seen goes =
    let address : Word = Address (At (Stack s.own s.counter) (pos 0)) in
    let q = goes seen.0 (subst (λ names. IsPlaceOf names x register) (sym same) k.place) in
    let within : nat_le size block_limit ≡ true = le-leb size block_limit low in
    subst (λ nx. IsOwn m s new nx (Ok Went)) (sym (ap (λ b. if b then Local (record (thread_seen m s) { counter = s.counter + 1; frames = record { code = code_on f.code x address; blocks = ((s.own, s.counter), replicate size (Num 0)) ∷ f.blocks } ∷ rest }) else Trapped TooLarge) within))
    (q.0, q.1 ∙ ap (on_innermost (λ c. code_on c x address)) seen.1)
