-- A branch, once the words of the target's phis are gathered and assigned.
use Rattle.std.proofs.Common.{◌≡◌, ℕ, ◌≤◌, List, [], ◌∷◌, ◌++◌, length, reverse, Some, Result, Ok, Err, refl, sym, ap, ◌∙◌, subst, arith, slice_get}
use Rattle.ir_core.specs.declared.module.Module.{Module}
use Rattle.ir_core.specs.declared.module.Block.{Block}
use Rattle.ir_core.specs.Places.{PhiNode, block_in, register_names, leading_phis, phis_in, phis_at, name_in, label_at}
use Rattle.mem_model.specs.declared.memory.Word.{Word}
use Rattle.mem_model.specs.declared.step.Trap.{Trap}
use Rattle.mem_model.specs.Thread.{Name, Frame, ThreadState}
use Rattle.mem_model.specs.Next.{with_found, with_frames, with_phis, enters, to_block}
use Rattle.mem_model.specs.Answers.{only_trap}
use Rattle.thread_state.specs.declared.state.Frame.{Frame as FrameData}
use Rattle.thread_state.specs.declared.state.StackBlock.{StackBlock}
use Rattle.thread_state.specs.declared.state.ThreadState.{ThreadState as ThreadData}
use Rattle.thread_state.specs.Seen.{frames_seen, thread_seen, AreFrames, IsThread, IsSeen}
use Rattle.thread_state.specs.Moves.{first_registers, first_names, names_of, first_room, room_of, on_first, on_innermost, Moves, code_at}
use Rattle.interp_local.specs.declared.steps.Own.{Own}
use Rattle.interp_local.specs.declared.steps.Own.TheVariants.{Went}
use Rattle.interp_local.specs.Operands.{registers}
use Rattle.interp_local.specs.Actions.{first_function, function_of}
use Rattle.interp_local.specs.Phis.{results, phi_words, assigned_words, with_words, AreKept, HasGathered, HavePlaces, first_block, block_of}
use Rattle.interp_local.specs.Steps.{IsOwn}
use Rattle.interp_local.specs.Runs.{Tells}
use Rattle.interp_local.proofs.Results.{block_places}
use Rattle.interp_local.proofs.Branches.{phis_ok, phis_err, results_few}

-- ---- the innermost call

room_first : (m : Module) (end : ℕ) (fs : List FrameData) → AreFrames m end fs → length (first_room fs) ≡ length (first_names m fs)
room_first m end [] are = refl
room_first m end (g ∷ outer) are = are.1

-- there is room for a word for each register
pub room_size : (m : Module) (s : ThreadData) → IsThread m s → length (room_of s) ≡ length (names_of m s)
room_size m s is = room_first m (length s.stack.items) (reverse s.frames.items) is.0

seen_names : Module → List Frame → List Name
seen_names m [] = []
seen_names m (f ∷ rest) = register_names m f.code.at.function

names_first : (m : Module) (own : ℕ) (stack : List StackBlock) (end : ℕ) (fs : List FrameData) → first_names m fs ≡ seen_names m (frames_seen m own stack end fs)
unfolding seen_names
names_first m own stack end [] = refl
names_first m own stack end (g ∷ outer) = refl

-- states that mean the same have the same registers
pub same_names : (m : Module) (s t : ThreadData) → thread_seen m s ≡ thread_seen m t → names_of m s ≡ names_of m t
same_names m s t e =
    names_first m s.own s.stack.items (length s.stack.items) (reverse s.frames.items)
    ∙ ap (λ (u : ThreadState). seen_names m u.frames) e
    ∙ sym (names_first m t.own t.stack.items (length t.stack.items) (reverse t.frames.items))

function_names : (m : Module) (fs : List FrameData) (b : Block) → first_block m fs ≡ Some b → first_names m fs ≡ register_names m (first_function fs)
function_names m [] b e = let f : ⊥ = cc in absurd f
function_names m (g ∷ outer) b e = refl

label_first : (m : Module) (own : ℕ) (stack : List StackBlock) (end : ℕ) (fs : List FrameData) (f : Frame) (rest : List Frame) (b : Block) → frames_seen m own stack end fs ≡ f ∷ rest → first_block m fs ≡ Some b → label_at m f.code.at ≡ b.name
label_first m own stack end [] f rest b frames e = let g : ⊥ = cc in absurd g
label_first m own stack end (g ∷ outer) f rest b frames e = ap (label_of m) (sym frames) ∙ ap name_in e
  where
    label_of : Module → List Frame → Name
    label_of m [] = []
    label_of m (f ∷ rest) = label_at m f.code.at

seen_function : List Frame → ℕ
seen_function [] = 0
seen_function (f ∷ rest) = f.code.at.function

function_first : (m : Module) (own : ℕ) (stack : List StackBlock) (end : ℕ) (fs : List FrameData) → first_function fs ≡ seen_function (frames_seen m own stack end fs)
unfolding seen_function
function_first m own stack end [] = refl
function_first m own stack end (g ∷ outer) = refl

pub function_at : (m : Module) (s : ThreadData) (f : Frame) (rest : List Frame) → (thread_seen m s).frames ≡ f ∷ rest → function_of s ≡ f.code.at.function
unfolding seen_function
function_at m s f rest frames = function_first m s.own s.stack.items (length s.stack.items) (reverse s.frames.items) ∙ ap seen_function frames

-- ---- what was gathered

kept_ok : {U : Type 0} (r : Result (List Word) Trap) (room : List Word) (u : U) → AreKept r room (Ok u) → (words behind : List Word) × (r ≡ Ok words) × (room ≡ words ++ behind)
kept_ok (Ok words) room u h = (words, h.0, refl, h.1)
kept_ok (Err e) room u h = absurd h

kept_err : (r : Result (List Word) Trap) (room : List Word) (e : Trap) → AreKept {U = Unit {0}} r room (Err e) → r ≡ Err e
kept_err (Ok words) room e h = absurd h
kept_err (Err x) room e h = ap Err h

only_err : (r : Result (List Word) Trap) (e : Trap) → Err e ≡ only_trap r → r ≡ Err e
only_err (Err x) e is = let same : e ≡ x = cc in ap Err (sym same)
only_err (Ok words) e is = let f : ⊥ = cc in absurd f

only_ok : (r : Result (List Word) Trap) → Ok tt ≡ only_trap r → (words : List Word) × (r ≡ Ok words)
only_ok (Err x) is = let f : ⊥ = cc in absurd f
only_ok (Ok words) is = (words, refl)

module _ (m : Module) (s : ThreadData) (here target : Block) (b : ℕ) (here_is : block_of m s ≡ Some here) (target_is : block_in (slice_get m.functions (function_of s)) b ≡ Some target) where
  names_are : names_of m s ≡ register_names m (function_of s)
  names_are = function_names m (reverse s.frames.items) here here_is

  pub room_there : IsThread m s → length (results (leading_phis target.insts)) ≤ length (room_of s)
  room_there is =
      let few = results_few m (function_of s) b target target_is in
      let size = room_size m s is in
      let same = ap (λ (xs : List Name). length xs) names_are in
      omega arith

  pub room_then : (t : ThreadData) → IsSeen m t (thread_seen m s) → length (results (leading_phis target.insts)) ≤ length (room_of t)
  room_then t seen =
      let few = results_few m (function_of s) b target target_is in
      let size = room_size m t seen.0 in
      let same = ap (λ (xs : List Name). length xs) (same_names m t s seen.1 ∙ names_are) in
      omega arith

  pub places_then : (t : ThreadData) → IsSeen m t (thread_seen m s) → HavePlaces (names_of m t) target.insts
  places_then t seen = subst (λ names. HavePlaces names target.insts) (sym (same_names m t s seen.1 ∙ names_are)) (block_places m (function_of s) b target target_is)

  module _ (f : Frame) (rest : List Frame) (frames : (thread_seen m s).frames ≡ f ∷ rest) where
    abbrev Target : List PhiNode
    Target = phis_at m f.code.at.function b

    label_is : label_at m f.code.at ≡ here.name
    label_is = label_first m s.own s.stack.items (length s.stack.items) (reverse s.frames.items) f rest here frames here_is

    registers_are : f.code.registers ≡ registers m s
    registers_are = sym (ap first_registers frames)

    phis_are : Target ≡ leading_phis target.insts
    phis_are = ap (λ k. phis_in (block_in (slice_get m.functions k) b)) (sym (function_at m s f rest frames)) ∙ ap phis_in target_is

    fails : (e : Trap) → phi_words m (registers m s) here.name (leading_phis target.insts) ≡ Err e → with_phis m f.code.registers (label_at m f.code.at) Target f.code.registers ≡ Err e
    fails e is = (λ i. with_phis m (registers_are i) (label_is i) (phis_are i) f.code.registers) ∙ phis_err m (registers m s) here.name [] (leading_phis target.insts) e f.code.registers is

    goes : (words behind : List Word) → phi_words m (registers m s) here.name (leading_phis target.insts) ≡ Ok words → with_phis m f.code.registers (label_at m f.code.at) Target f.code.registers ≡ Ok (assigned_words (leading_phis target.insts) (words ++ behind) f.code.registers)
    goes words behind is = (λ i. with_phis m (registers_are i) (label_is i) (phis_are i) f.code.registers) ∙ phis_ok m (registers m s) here.name behind (leading_phis target.insts) words f.code.registers is

    pub jump_traps : (new : ThreadData) (e : Trap) (result : Result Own Trap) → HasGathered {U = Unit {0}} m here.name (leading_phis target.insts) s new (Err e) → result ≡ Err e → IsOwn m s new (to_block m (thread_seen m s) f rest (Some b)) result
    jump_traps new e result h same =
        subst (λ x. IsOwn m s new (to_block m (thread_seen m s) f rest (Some b)) x) (sym same)
        (subst (λ x. IsOwn m s new (with_found x (enters (thread_seen m s) f rest (record { function = f.code.at.function; block = b; index = length Target }))) (Err e)) (sym (fails e (kept_err _ _ e h.1))) (refl, h.0))

    pub jump_goes : {U : Type 0} (s1 s2 s3 : ThreadData) (u : U) (count : ℕ) → HasGathered m here.name (leading_phis target.insts) s s1 (Ok u) → count ≡ length (leading_phis target.insts) → Moves (with_words (leading_phis target.insts) (room_of s1)) m s1 s2 → (IsThread m s2 → Moves (code_at b count) m s2 s3) →
        IsOwn m s s3 (to_block m (thread_seen m s) f rest (Some b)) (Ok Went)
    jump_goes s1 s2 s3 u count h count_is words place =
        let k = kept_ok _ (room_of s1) u h.1 in
        let q = place words.0 in
        let seen : thread_seen m s3 ≡ on_innermost (code_at b count) (on_innermost (with_words (leading_phis target.insts) (room_of s1)) (thread_seen m s)) =
        q.1 ∙ ap (on_innermost (code_at b count)) (words.1 ∙ ap (on_innermost (with_words (leading_phis target.insts) (room_of s1))) h.0.1) in
        let size : count ≡ length Target = count_is ∙ ap (λ (ps : List PhiNode). length ps) (sym phis_are) in
        subst (λ x. IsOwn m s s3 (with_found x (enters (thread_seen m s) f rest (record { function = f.code.at.function; block = b; index = length Target }))) (Ok Went)) (sym (goes k.0 k.1 k.2)) (
          q.0,
          seen ∙ (λ i. with_frames (thread_seen m s) (on_first (code_at b (size i)) (on_first (with_words (leading_phis target.insts) (k.3 i)) (frames i)))),
        )

    pub look_traps : (e : Trap) (result : Result Own Trap) → Err e ≡ only_trap (phi_words m (registers m s) here.name (leading_phis target.insts)) → result ≡ Err e → Tells (to_block m (thread_seen m s) f rest (Some b)) result
    look_traps e result h same =
        subst (λ x. Tells (to_block m (thread_seen m s) f rest (Some b)) x) (sym same)
        (subst (λ x. Tells (with_found x (enters (thread_seen m s) f rest (record { function = f.code.at.function; block = b; index = length Target }))) (Err e)) (sym (fails e (only_err _ e h))) refl)

    pub look_goes : Ok tt ≡ only_trap (phi_words m (registers m s) here.name (leading_phis target.insts)) → Tells (to_block m (thread_seen m s) f rest (Some b)) (Ok Went)
    look_goes h =
        let w = only_ok _ h in
        subst (λ x. Tells (with_found x (enters (thread_seen m s) f rest (record { function = f.code.at.function; block = b; index = length Target }))) (Ok Went)) (sym (goes w.0 [] w.1)) tt
