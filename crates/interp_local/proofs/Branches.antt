-- The phis of a block, assigned from words that are gathered first.
use Rattle.std.proofs.Common.{◌≡◌, ℕ, zero, suc, ◌+◌, ◌<◌, ◌≤◌, List, [], ◌∷◌, ◌++◌, map, take, drop, length, Bool, true, false, Option, Some, None, Result, Ok, Err, refl, sym, ap, ◌∙◌, subst, arith, slice_get, slice_set, append_assoc, length-append}
use Rattle.std.specs.Prelude.{is_some}
use Rattle.std.specs.List.{flat_map}
use Rattle.std.proofs.lemmas.List.{take_more_set, take-append-drop, length-set}
use Rattle.ir_core.specs.declared.instructions.Inst.{Inst}
use Rattle.ir_core.specs.declared.instructions.Edge.{Edge}
use Rattle.ir_core.specs.declared.instructions.Kind.{Kind}
use Rattle.ir_core.specs.declared.instructions.Kind.TheVariants.{Phi}
use Rattle.ir_core.specs.declared.module.Module.{Module}
use Rattle.ir_core.specs.declared.module.Function.{Function}
use Rattle.ir_core.specs.declared.module.Block.{Block}
use Rattle.ir_core.specs.declared.types.Ty.{Ty}
use Rattle.ir_core.specs.Places.{PhiNode, block_in, param_name, result_names, inst_results, block_results, register_names_of, register_names, with_phi, leading_phis, edge_from}
use Rattle.mem_model.specs.declared.memory.Word.{Word}
use Rattle.mem_model.specs.declared.step.Trap.{Trap}
use Rattle.mem_model.specs.Thread.{Name, Registers, Frame, ThreadState, assigned}
use Rattle.mem_model.specs.Values.{and_then}
use Rattle.mem_model.specs.Next.{phi_word, with_phis}
use Rattle.mem_model.proofs.Runs.{some_injective}
use Rattle.thread_state.specs.declared.state.ThreadState.{ThreadState as ThreadData}
use Rattle.thread_state.specs.Seen.{thread_seen, IsThread, IsSeen}
use Rattle.thread_state.specs.Moves.{first_registers, names_of, room_of, with_register, on_first, on_innermost, Moves}
use Rattle.interp_local.specs.Operands.{registers}
use Rattle.interp_local.specs.Phis.{phi_result, results, with_kept, phi_words, rest_words, assigned_first, assigned_words, with_words, AreKept, HasGathered}

-- ---- lists

drop_suc : {A : Type 0} (xs : List A) (k : ℕ) (x : A) → slice_get xs k ≡ Some x → drop k xs ≡ x ∷ drop (suc k) xs
drop_suc [] k x e = let f : ⊥ = cc in absurd f
drop_suc (y ∷ ys) zero x e = ap (λ z. z ∷ ys) (some_injective e)
drop_suc (y ∷ ys) (suc k) x e = drop_suc ys k x e

pub drop_get : {A : Type 0} (xs : List A) (k : ℕ) (x : A) → slice_get xs k ≡ Some x → drop k xs ≡ x ∷ drop (k + 1) xs
drop_get xs k x e = let next : suc k ≡ k + 1 = omega arith in drop_suc xs k x e ∙ ap (λ j. x ∷ drop j xs) next

pub get_low : {A : Type 0} (xs : List A) (k : ℕ) → k < length xs → slice_get xs k ≡ None → ⊥
get_low [] k low e = omega arith
get_low (y ∷ ys) zero low e = let f : ⊥ = cc in f
get_low (y ∷ ys) (suc k) low e = get_low ys k (omega arith) e

pub some_of : {A : Type 0} (o : Option A) (b : Bool) → b ≡ is_some o → b ≡ true → (x : A) × (o ≡ Some x)
some_of None b is yes_ = let f : ⊥ = cc in absurd f
some_of (Some x) b is yes_ = (x, refl)

pub none_of : {A : Type 0} (o : Option A) (b : Bool) → b ≡ is_some o → b ≡ false → o ≡ None
none_of None b is not = refl
none_of (Some x) b is not = let f : ⊥ = cc in absurd f

-- ---- one phi after another

phi_at : (x : Option Name) (k : Kind) (ty : Ty) (edges : List Edge) (phis : List PhiNode) → k ≡ Phi ty edges → with_phi x k phis ≡ record { result = x; edges = edges } ∷ phis
phi_at x k ty edges phis e = ap (λ j. with_phi x j phis) e

-- the phis from a place on, where a phi stands
pub phis_on : (insts : List Inst) (n : ℕ) (i : Inst) (ty : Ty) (edges : List Edge) → drop n insts ≡ i ∷ drop (n + 1) insts → i.kind ≡ Phi ty edges → leading_phis (drop n insts) ≡ record { result = i.result; edges = edges } ∷ leading_phis (drop (n + 1) insts)
phis_on insts n i ty edges at is = ap leading_phis at ∙ phi_at i.result i.kind ty edges (leading_phis (drop (n + 1) insts)) is

no_phi_at : (x : Option Name) (k : Kind) (phis : List PhiNode) → ((ty : Ty) (edges : List Edge) → k ≡ Phi ty edges → ⊥) → with_phi x k phis ≡ []
no_phi_at x (Phi ty edges) phis not = absurd (not ty edges refl)
no_phi_at x _ phis not = refl

-- no phi is left where another instruction stands
pub not_phis : (insts : List Inst) (n : ℕ) (i : Inst) → drop n insts ≡ i ∷ drop (n + 1) insts → ((ty : Ty) (edges : List Edge) → i.kind ≡ Phi ty edges → ⊥) → leading_phis (drop n insts) ≡ []
not_phis insts n i at not = ap leading_phis at ∙ no_phi_at i.result i.kind (leading_phis (drop (n + 1) insts)) not

-- nor at the end
pub no_phis : (insts : List Inst) (n : ℕ) → n ≡ length insts → leading_phis (drop n insts) ≡ []
no_phis insts n end = ap leading_phis (ap (λ k. drop k insts) end ∙ drop_all insts)
  where
    drop_all : (xs : List Inst) → drop (length xs) xs ≡ []
    drop_all [] = refl
    drop_all (x ∷ xs) = drop_all xs

-- ---- words that are gathered

abbrev pub Before : List Word → Result (List Word) Trap → Result (List Word) Trap
Before front r = and_then r (λ words. Ok (front ++ words))

pub gathered_trap : (front : List Word) (w : Result Word Trap) (rest : Result (List Word) Trap) (o : Option Name) (e : Trap) → w ≡ Err e → Before front (and_then w (λ word. and_then rest (λ words. Ok (with_kept o word words)))) ≡ Err e
gathered_trap front w rest o e is = ap (λ x. Before front (and_then x (λ word. and_then rest (λ words. Ok (with_kept o word words))))) is

pub gathered_none : (front : List Word) (w : Result Word Trap) (rest : Result (List Word) Trap) (word : Word) → w ≡ Ok word → Before front rest ≡ Before front (and_then w (λ word. and_then rest (λ words. Ok (with_kept None word words))))
gathered_none front w (Ok words) word is = sym (ap (λ x. Before front (and_then x (λ word. and_then (Ok words) (λ words. Ok (with_kept None word words))))) is)
gathered_none front w (Err e) word is = sym (ap (λ x. Before front (and_then x (λ word. and_then (Err e) (λ words. Ok (with_kept None word words))))) is)

pub gathered_some : (front : List Word) (w : Result Word Trap) (rest : Result (List Word) Trap) (x : Name) (word : Word) → w ≡ Ok word → Before (front ++ word ∷ []) rest ≡ Before front (and_then w (λ word. and_then rest (λ words. Ok (with_kept (Some x) word words))))
gathered_some front w (Ok words) x word is = ap Ok (append_assoc front (word ∷ []) words) ∙ sym (ap (λ y. Before front (and_then y (λ word. and_then (Ok words) (λ words. Ok (with_kept (Some x) word words))))) is)
gathered_some front w (Err e) x word is = sym (ap (λ y. Before front (and_then y (λ word. and_then (Err e) (λ words. Ok (with_kept (Some x) word words))))) is)

-- what a loop that gathers words knows
pub record Gathers (m : Module) (from : Name) (insts : List Inst) (s0 s : ThreadData) (n kept : ℕ) : Type 0 where
  pub same : IsSeen m s (thread_seen m s0)
  pub low : kept ≤ n
  pub room : kept + length (results (leading_phis (drop n insts))) ≤ length (room_of s)
  pub words : Before (take kept (room_of s)) (phi_words m (registers m s0) from (leading_phis (drop n insts))) ≡ phi_words m (registers m s0) from (leading_phis insts)

module _ (m : Module) (from : Name) (insts : List Inst) (s0 s : ThreadData) (n kept : ℕ) (g : Gathers m from insts s0 s n kept) where
  -- no phi stands here
  pub gathered_all : leading_phis (drop n insts) ≡ [] → HasGathered {U = Unit {0}} m from (leading_phis insts) s0 s (Ok tt)
  gathered_all none =
      let all : phi_words m (registers m s0) from (leading_phis insts) ≡ Ok (take kept (room_of s) ++ []) = sym g.words ∙ ap (λ ps. Before (take kept (room_of s)) (phi_words m (registers m s0) from ps)) none in
      let whole : room_of s ≡ (take kept (room_of s) ++ []) ++ drop kept (room_of s) = sym (take-append-drop kept (room_of s)) ∙ sym (append_assoc (take kept (room_of s)) [] (drop kept (room_of s))) in
      (g.same, subst (λ r. AreKept {U = Unit {0}} r (room_of s) (Ok tt)) (sym all) (drop kept (room_of s), whole))

  pub gathered_err : (i : Inst) (ty : Ty) (edges : List Edge) (e : Trap) (result : Result (Unit {0}) Trap) → drop n insts ≡ i ∷ drop (n + 1) insts → i.kind ≡ Phi ty edges → phi_word m (registers m s) (edge_from edges from) ≡ Err e → result ≡ Err e → HasGathered m from (leading_phis insts) s0 s result
  gathered_err i ty edges e result at is trap result_is =
      let same : registers m s ≡ registers m s0 = ap (λ t. first_of t) g.same.1 in
      let all : phi_words m (registers m s0) from (leading_phis insts) ≡ Err e =
      sym g.words
      ∙ ap (λ ps. Before (take kept (room_of s)) (phi_words m (registers m s0) from ps)) (phis_on insts n i ty edges at is)
      ∙ gathered_trap (take kept (room_of s)) _ _ i.result e (ap (λ r. phi_word m r (edge_from edges from)) (sym same) ∙ trap) in
      (g.same, subst (λ x. AreKept {U = Unit {0}} (phi_words m (registers m s0) from (leading_phis insts)) (room_of s) x) (sym result_is) (subst (λ r. AreKept {U = Unit {0}} r (room_of s) (Err e)) (sym all) refl))
    where
      first_of : ThreadState → Registers
      first_of t = first_registers t.frames

module _ (m : Module) (from : Name) (insts : List Inst) (s0 s : ThreadData) (n kept : ℕ) (g : Gathers m from insts s0 s n kept) (i : Inst) (ty : Ty) (edges : List Edge) (at : drop n insts ≡ i ∷ drop (n + 1) insts) (is : i.kind ≡ Phi ty edges) where
  abbrev Ps : List PhiNode
  Ps = leading_phis (drop (n + 1) insts)

  abbrev P : Option Name → PhiNode
  P o = record { result = o; edges = edges }

  on : (o : Option Name) → i.result ≡ o → leading_phis (drop n insts) ≡ P o ∷ Ps
  on o e = phis_on insts n i ty edges at is ∙ ap (λ x. P x ∷ Ps) e

  have : (o : Option Name) → i.result ≡ o → kept + length (phi_result (P o) ++ results Ps) ≤ length (room_of s)
  have o e = subst (λ ps. kept + length (results ps) ≤ length (room_of s)) (on o e) g.room

  word_at : (word : Word) → phi_word m (registers m s) (edge_from edges from) ≡ Ok word → phi_word m (registers m s0) (edge_from edges from) ≡ Ok word
  word_at word e = ap (λ (t : ThreadState). phi_word m (first_registers t.frames) (edge_from edges from)) (sym g.same.1) ∙ e

  pub gathers_none : (word : Word) → i.result ≡ None → phi_word m (registers m s) (edge_from edges from) ≡ Ok word → Gathers m from insts s0 s (n + 1) kept
  gathers_none word none e = record {
    same = g.same;
    low = let low = g.low in omega arith;
    room = have None none;
    words =
        gathered_none (take kept (room_of s)) (phi_word m (registers m s0) (edge_from edges from)) (phi_words m (registers m s0) from Ps) word (word_at word e)
        ∙ sym (ap (λ ps. Before (take kept (room_of s)) (phi_words m (registers m s0) from ps)) (on None none))
        ∙ g.words;
  }

  pub kept_low : (x : Name) → i.result ≡ Some x → kept < length (room_of s)
  kept_low x some = let h = have (Some x) some in omega arith

  pub gathers_some : (word : Word) (x : Name) (new : ThreadData) → i.result ≡ Some x → phi_word m (registers m s) (edge_from edges from) ≡ Ok word → room_of new ≡ slice_set (room_of s) kept word → (IsThread m s → IsSeen m new (thread_seen m s)) → Gathers m from insts s0 new (n + 1) (kept + 1)
  gathers_some word x new some e room seen =
      let low = kept_low x some in
      let h = have (Some x) some in
      let size : length (room_of new) ≡ length (room_of s) = ap length room ∙ length-set (room_of s) kept word in
      let front : take (kept + 1) (room_of new) ≡ take kept (room_of s) ++ word ∷ [] = ap (take (kept + 1)) room ∙ take_more_set (room_of s) kept word low in
      let q = seen g.same.0 in
      record {
        same = (q.0, q.1 ∙ g.same.1);
        low = let low = g.low in omega arith;
        room = omega arith;
        words =
            ap (λ f. Before f (phi_words m (registers m s0) from Ps)) front
            ∙ gathered_some (take kept (room_of s)) (phi_word m (registers m s0) (edge_from edges from)) (phi_words m (registers m s0) from Ps) x word (word_at word e)
            ∙ sym (ap (λ ps. Before (take kept (room_of s)) (phi_words m (registers m s0) from ps)) (on (Some x) some))
            ∙ g.words;
      }

-- ---- words that are assigned

-- what a loop that assigns words knows
pub record Assigns (m : Module) (insts : List Inst) (s0 s : ThreadData) (n count kept : ℕ) : Type 0 where
  pub thread : IsThread m s
  pub names : names_of m s ≡ names_of m s0
  pub room : room_of s ≡ room_of s0
  pub count_is : count ≡ n
  pub low : kept ≤ n
  pub have : kept + length (results (leading_phis (drop n insts))) ≤ length (room_of s0)
  pub size : n + length (leading_phis (drop n insts)) ≡ length (leading_phis insts)
  pub seen : on_innermost (with_words (leading_phis (drop n insts)) (drop kept (room_of s0))) (thread_seen m s) ≡ on_innermost (with_words (leading_phis insts) (room_of s0)) (thread_seen m s0)

no_words : (words : List Word) (t : ThreadState) → on_innermost (with_words [] words) t ≡ t
no_words words t = ap (λ fs. record t { frames = fs }) (same t.frames)
  where
    same : (fs : List Frame) → on_first (with_words [] words) fs ≡ fs
    same [] = refl
    same (f ∷ rest) = refl

one_more : (p : PhiNode) (ps : List PhiNode) (words behind : List Word) (x : Name) (word : Word) (t : ThreadState) → p.result ≡ Some x → words ≡ word ∷ behind → on_innermost (with_words ps behind) (on_innermost (with_register (Some x) word) t) ≡ on_innermost (with_words (p ∷ ps) words) t
one_more p ps words behind x word t some is = ap (λ fs. record t { frames = fs }) (same t.frames)
  where
    same : (fs : List Frame) → on_first (with_words ps behind) (on_first (with_register (Some x) word) fs) ≡ on_first (with_words (p ∷ ps) words) fs
    same [] = refl
    same (f ∷ rest) = λ i. record f { code = record f.code { registers = assigned_words ps (rest_words (sym some i) (sym is i)) (assigned_first (sym some i) (sym is i) f.code.registers) } } ∷ rest

module _ (m : Module) (insts : List Inst) (s0 s : ThreadData) (n count kept : ℕ) (a : Assigns m insts s0 s n count kept) where
  pub assigned_all : leading_phis (drop n insts) ≡ [] → (count ≡ length (leading_phis insts)) × Moves (with_words (leading_phis insts) (room_of s0)) m s0 s
  assigned_all none =
      let size : n + 0 ≡ length (leading_phis insts) = ap (λ (ps : List PhiNode). n + length ps) (sym none) ∙ a.size in
      let is = a.count_is in (
        omega arith,
        (a.thread, sym (no_words (drop kept (room_of s0)) (thread_seen m s)) ∙ ap (λ ps. on_innermost (with_words ps (drop kept (room_of s0))) (thread_seen m s)) (sym none) ∙ a.seen),
      )

  module _ (i : Inst) (ty : Ty) (edges : List Edge) (at : drop n insts ≡ i ∷ drop (n + 1) insts) (is : i.kind ≡ Phi ty edges) where
    abbrev Qs : List PhiNode
    Qs = leading_phis (drop (n + 1) insts)

    abbrev Q : Option Name → PhiNode
    Q o = record { result = o; edges = edges }

    here : (o : Option Name) → i.result ≡ o → leading_phis (drop n insts) ≡ Q o ∷ Qs
    here o e = phis_on insts n i ty edges at is ∙ ap (λ x. Q x ∷ Qs) e

    more : (o : Option Name) → i.result ≡ o → kept + length (phi_result (Q o) ++ results Qs) ≤ length (room_of s0)
    more o e = subst (λ ps. kept + length (results ps) ≤ length (room_of s0)) (here o e) a.have

    count_more : (o : Option Name) → i.result ≡ o → n + suc (length Qs) ≡ length (leading_phis insts)
    count_more o e = ap (λ (ps : List PhiNode). n + length ps) (sym (here o e)) ∙ a.size

    pub word_there : (x : Name) (k : ℕ) → i.result ≡ Some x → kept ≡ k → slice_get (room_of s) k ≡ None → ⊥
    word_there x k some same none =
        let h = more (Some x) some in
        get_low (room_of s0) kept (omega arith) (ap (λ j. slice_get (room_of s0) j) same ∙ ap (λ r. slice_get r k) (sym a.room) ∙ none)

    pub assigns_none : i.result ≡ None → Assigns m insts s0 s (n + 1) (count + 1) kept
    assigns_none none = record {
      thread = a.thread;
      names = a.names;
      room = a.room;
      count_is = let same = a.count_is in omega arith;
      low = let low = a.low in omega arith;
      have = more None none;
      size = let size = count_more None none in omega arith;
      seen = sym (ap (λ ps. on_innermost (with_words ps (drop kept (room_of s0))) (thread_seen m s)) (here None none)) ∙ a.seen;
    }

    pub assigns_some : (word : Word) (x : Name) (new : ThreadData) → i.result ≡ Some x → slice_get (room_of s) kept ≡ Some word → Moves (with_register (Some x) word) m s new → room_of new ≡ room_of s → names_of m new ≡ names_of m s → Assigns m insts s0 new (n + 1) (count + 1) (kept + 1)
    assigns_some word x new some there moves room names =
        let front : drop kept (room_of s0) ≡ word ∷ drop (kept + 1) (room_of s0) = drop_get (room_of s0) kept word (ap (λ r. slice_get r kept) (sym a.room) ∙ there) in
        record {
          thread = moves.0;
          names = names ∙ a.names;
          room = room ∙ a.room;
          count_is = let same = a.count_is in omega arith;
          low = let low = a.low in omega arith;
          have = let h = more (Some x) some in omega arith;
          size = let size = count_more (Some x) some in omega arith;
          seen =
              ap (on_innermost (with_words Qs (drop (kept + 1) (room_of s0)))) moves.1
              ∙ one_more (Q (Some x)) Qs (drop kept (room_of s0)) (drop (kept + 1) (room_of s0)) x word (thread_seen m s) refl front
              ∙ sym (ap (λ ps. on_innermost (with_words ps (drop kept (room_of s0))) (thread_seen m s)) (here (Some x) some))
              ∙ a.seen;
        }

-- ---- what is gathered and assigned is assigned at once

module _ (m : Module) (before : Registers) (from : Name) (behind : List Word) where
  step_ok : (ps : List PhiNode) (o : Option Name) (w : Result Word Trap) (rest : Result (List Word) Trap) (go : Registers → Result Registers Trap) (words : List Word) (r : Registers) → ((us : List Word) (r : Registers) → rest ≡ Ok us → go r ≡ Ok (assigned_words ps (us ++ behind) r)) → and_then w (λ word. and_then rest (λ us. Ok (with_kept o word us))) ≡ Ok words →
      and_then w (λ word. go (assigned r o word)) ≡ Ok (assigned_words ps (rest_words o (words ++ behind)) (assigned_first o (words ++ behind) r))
  step_ok ps None (Ok w) (Ok us) go words r h e = let same : us ≡ words = cc in h us r refl ∙ ap (λ ws. Ok (assigned_words ps (ws ++ behind) r)) same
  step_ok ps (Some x) (Ok w) (Ok us) go words r h e =
      let same : w ∷ us ≡ words = cc in h us (assigned r (Some x) w) refl ∙ ap (λ ws. Ok (assigned_words ps (rest_words (Some x) (ws ++ behind)) (assigned_first (Some x) (ws ++ behind) r))) same
  step_ok ps o (Ok w) (Err x) go words r h e = let f : ⊥ = cc in absurd f
  step_ok ps o (Err x) rest go words r h e = let f : ⊥ = cc in absurd f

  pub phis_ok : (ps : List PhiNode) (words : List Word) (r : Registers) → phi_words m before from ps ≡ Ok words → with_phis m before from ps r ≡ Ok (assigned_words ps (words ++ behind) r)
  phis_ok [] words r e = refl
  phis_ok (p ∷ ps) words r e = step_ok ps p.result (phi_word m before (edge_from p.edges from)) (phi_words m before from ps) (with_phis m before from ps) words r (phis_ok ps) e

  step_err : (o : Option Name) (w : Result Word Trap) (rest : Result (List Word) Trap) (go : Registers → Result Registers Trap) (trap : Trap) (r : Registers) → ((r : Registers) → rest ≡ Err trap → go r ≡ Err trap) → and_then w (λ word. and_then rest (λ us. Ok (with_kept o word us))) ≡ Err trap →
      and_then w (λ word. go (assigned r o word)) ≡ Err trap
  step_err o (Ok w) (Ok us) go trap r h e = let f : ⊥ = cc in absurd f
  step_err o (Ok w) (Err x) go trap r h e = h (assigned r o w) (let same : x ≡ trap = cc in ap Err same)
  step_err o (Err x) rest go trap r h e = let same : x ≡ trap = cc in ap Err same

  pub phis_err : (ps : List PhiNode) (trap : Trap) (r : Registers) → phi_words m before from ps ≡ Err trap → with_phis m before from ps r ≡ Err trap
  phis_err [] trap r e = let f : ⊥ = cc in absurd f
  phis_err (p ∷ ps) trap r e = step_err p.result (phi_word m before (edge_from p.edges from)) (phi_words m before from ps) (with_phis m before from ps) trap r (phis_err ps trap) e

-- ---- there is room for the words, and each result has a register

more_results : (x : Option Name) (k : Kind) (phis : List PhiNode) (names : List Name) → length (results phis) ≤ length names → length (results (with_phi x k phis)) ≤ length (result_names x ++ names)
more_results x (Phi ty edges) phis names low = let a = length-append (result_names x) (results phis) in let b = length-append (result_names x) names in omega arith
more_results x _ phis names low = omega arith

few_results : (insts : List Inst) → length (results (leading_phis insts)) ≤ length (flat_map inst_results insts)
few_results [] = omega arith
few_results (i ∷ is) = more_results i.result i.kind (leading_phis is) (flat_map inst_results is) (few_results is)

in_blocks : (bs : List Block) (k : ℕ) (b : Block) → slice_get bs k ≡ Some b → length (block_results b) ≤ length (flat_map block_results bs)
in_blocks [] k b e = let f : ⊥ = cc in absurd f
in_blocks (c ∷ bs) zero b e = let same = ap (λ d. length (block_results d)) (some_injective e) in let a = length-append (block_results c) (flat_map block_results bs) in omega arith
in_blocks (c ∷ bs) (suc k) b e = let low = in_blocks bs k b e in let a = length-append (block_results c) (flat_map block_results bs) in omega arith

in_function : (o : Option Function) (k : ℕ) (b : Block) → block_in o k ≡ Some b → length (results (leading_phis b.insts)) ≤ length (register_names_of o)
in_function None k b e = let f : ⊥ = cc in absurd f
in_function (Some f) k b e =
    let low = in_blocks f.blocks k b e in let few = few_results b.insts in let a = length-append (map param_name f.params) (flat_map block_results f.blocks) in omega arith

pub results_few : (m : Module) (k n : ℕ) (b : Block) → block_in (slice_get m.functions k) n ≡ Some b → length (results (leading_phis b.insts)) ≤ length (register_names m k)
results_few m k n b e = in_function (slice_get m.functions k) n b e
