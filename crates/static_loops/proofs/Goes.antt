-- What the call that gives a thread its share makes of its state.
use Rattle.std.proofs.Common.{◌≡◌, ℕ, ℤ, ◌<◌, ◌^◌, List, ◌∷◌, Option, Some, None, Result, Ok, Err, refl, sym, ap, ◌∙◌, subst}
use Rattle.std.specs.Prelude.{pos, negsuc}
use Rattle.std.proofs.Math.Nat.{mod-lt}
use Rattle.std.proofs.lemmas.Nat.{pow_pos}
use Rattle.std.proofs.Common.{arith}
use Rattle.ir_core.specs.declared.module.Module.{Module}
use Rattle.mem_model.specs.declared.step.Trap.{Trap}
use Rattle.mem_model.specs.Answers.{only_trap}
use Rattle.mem_model.specs.Eval.{signed, wrapped}
use Rattle.mem_model.specs.Values.{and_then}
use Rattle.mem_model.specs.Thread.{Frame}
use Rattle.mem_model.specs.Steps.{NextStep, Local, Trapped, with_found, with_frames, code_past}
use Rattle.mem_model.specs.Schedules.{Turns}
use Rattle.mem_model.specs.Entries.{put_turns}
use Rattle.thread_state.specs.declared.state.ThreadState.{ThreadState as ThreadData}
use Rattle.thread_state.specs.Seen.{thread_seen, IsThread}
use Rattle.thread_state.specs.Moves.{on_innermost, Moves}
use Rattle.static_loops.specs.declared.turns.Loop.{Loop as LoopData}
use Rattle.static_loops.specs.declared.starts.Spots.{Spots}
use Rattle.static_loops.specs.Shares.{bounds_seen, turns_seen, AreWords, AreBoundWords}
use Rattle.static_loops.specs.Starts.{spots_seen, IsPut, IsPutWhere, HasStarted, puts_share}
use Rattle.static_loops.proofs.Stores.{past, turns_past}

-- ---- one store after another

pub where_put : {U : Type 0} (m : Module) (old new : ThreadData) (r : Result (List Frame) Trap) (result : Result U Trap) → IsPut m old new r result → IsPutWhere m old new r result
where_put m old new (Ok fs) result h = h
where_put m old new (Err e) result h = tt

-- a store that was to come fails no more than it does
pub where_err : (U : Type 0) {V : Type 0} (m : Module) (old mid new : ThreadData) (r : Result (List Frame) Trap) (go : List Frame → Result (List Frame) Trap) (e : Trap) (result : Result V Trap) → IsPutWhere {U = U} m old mid r (Err e) → IsPutWhere m old new (and_then r go) result
where_err U m old mid new (Ok fs) go e result h = let q = h.0 in let f : ⊥ = cc in absurd f
where_err U m old mid new (Err x) go e result h = tt

where_from : {U : Type 0} (m : Module) (old mid new : ThreadData) (gs : List Frame) (r : Result (List Frame) Trap) (result : Result U Trap) → thread_seen m mid ≡ with_frames (thread_seen m old) gs → IsPutWhere m mid new r result → IsPutWhere m old new r result
where_from m old mid new gs (Ok hs) result seen h = (h.0, (h.1.0, h.1.1 ∙ ap (λ t. with_frames t hs) seen))
where_from m old mid new gs (Err e) result seen h = tt

pub where_then : {U V : Type 0} (m : Module) (old mid new : ThreadData) (r : Result (List Frame) Trap) (go : List Frame → Result (List Frame) Trap) (first : Result U Trap) (result : Result V Trap) → IsPutWhere m old mid r first → (IsThread m mid → IsPutWhere m mid new (go (thread_seen m mid).frames) result) → IsPutWhere m old new (and_then r go) result
where_then m old mid new (Ok gs) go first result h next =
    let seen : thread_seen m mid ≡ with_frames (thread_seen m old) gs = h.1.1 in
    where_from m old mid new gs (go gs) result seen (subst (λ fs. IsPutWhere m mid new (go fs) result) (ap (λ t. t.frames) seen) (next h.1.0))
where_then m old mid new (Err e) go first result h next = tt

-- ---- the call

trap_only : {A : Type 0} (r : Result A Trap) (e : Trap) → Err e ≡ only_trap r → r ≡ Err e
trap_only (Err x) e is = let same : x ≡ e = cc in ap Err same
trap_only (Ok x) e is = let f : ⊥ = cc in absurd f

module _ (m : Module) (old : ThreadData) (f : Frame) (rest : List Frame) (s : Spots) (given : Turns) (frames : (thread_seen m old).frames ≡ f ∷ rest) where
  abbrev all : Result (List Frame) Trap
  all = put_turns (spots_seen s) given (thread_seen m old).frames

  abbrev stands : Result (List Frame) Trap → NextStep
  stands r = with_found (and_then r (λ gs. Ok (past gs))) (λ fs. Local (with_frames (thread_seen m old) fs))

  share_is : puts_share (thread_seen m old) f rest (spots_seen s) given ≡ stands all
  share_is = ap (λ r. with_found r (λ fs. Local (with_frames (thread_seen m old) fs))) (turns_past (spots_seen s) given (f ∷ rest) ∙ ap (λ fs. and_then (put_turns (spots_seen s) given fs) (λ gs. Ok (past gs))) (sym frames))

  pub not_fitting : {U : Type 0} (e : Trap) (result : Result U Trap) → IsThread m old → Err e ≡ only_trap all → result ≡ Err e → HasStarted m old old (puts_share (thread_seen m old) f rest (spots_seen s) given) result
  not_fitting {U} e result thread is same =
      subst (λ nx. HasStarted m old old nx result) (sym (share_is ∙ ap stands (trap_only all e is)))
      (subst (λ r. HasStarted {U = U} m old old (Trapped e) r) (sym same) (refl, (thread, refl)))

  fails_not : (U : Type 0) (r : Result (List Frame) Trap) (mid : ThreadData) (e : Trap) → Ok tt ≡ only_trap r → IsPutWhere {U = U} m old mid r (Err e) → ⊥
  fails_not U (Ok fs) mid e fits h = let q = h.0 in cc
  fails_not U (Err x) mid e fits h = cc

  pub never_fails : (U : Type 0) (mid : ThreadData) (e : Trap) → Ok tt ≡ only_trap all → IsPutWhere {U = U} m old mid all (Err e) → ⊥
  never_fails U mid e fits h = fails_not U all mid e fits h

  goes_by : {U V : Type 0} (r : Result (List Frame) Trap) (mid new : ThreadData) (u : U) (v : V) → Ok tt ≡ only_trap r → IsPutWhere m old mid r (Ok u) → (IsThread m mid → Moves code_past m mid new) → HasStarted m old new (stands r) (Ok v)
  goes_by (Err e) mid new u v fits h goes = let f : ⊥ = cc in absurd f
  goes_by (Ok gs) mid new u v fits h goes =
      let q = goes h.1.0 in
      (q.0, q.1 ∙ ap (on_innermost code_past) h.1.1)

  pub goes : {U V : Type 0} (mid new : ThreadData) (u : U) (v : V) → Ok tt ≡ only_trap all → IsPutWhere m old mid all (Ok u) → (IsThread m mid → Moves code_past m mid new) → HasStarted m old new (puts_share (thread_seen m old) f rest (spots_seen s) given) (Ok v)
  goes mid new u v fits h moves = subst (λ nx. HasStarted m old new nx (Ok v)) (sym share_is) (goes_by all mid new u v fits h moves)

-- ---- the loop

module _ (increment : ℕ) (go : LoopData → NextStep) where
  abbrev range_of : ℕ → ℕ → LoopData
  range_of lower upper = record { lower = signed 32 lower; upper = signed 32 upper; increment = signed 32 increment }

  pub found_loop : (a b : Result ℕ Trap) (range : LoopData) → Ok range ≡ and_then a (λ lower. and_then b (λ upper. Ok (range_of lower upper))) → with_found a (λ lower. with_found b (λ upper. go (range_of lower upper))) ≡ go range
  found_loop (Err e) b range is = let f : ⊥ = cc in absurd f
  found_loop (Ok lower) (Err e) range is = let f : ⊥ = cc in absurd f
  found_loop (Ok lower) (Ok upper) range is = let same : range ≡ range_of lower upper = cc in ap go (sym same)

-- ---- words of 32 bits

wrapped_fits : (z : ℤ) → wrapped 32 z < 2 ^ 32
wrapped_fits (pos n) = mod-lt n (pow_pos 32)
wrapped_fits (negsuc n) = omega arith

bounds_fit : (given : Option (ℤ × ℤ)) → AreBoundWords (bounds_seen given)
bounds_fit None = tt
bounds_fit (Some given) = (wrapped_fits given.0, wrapped_fits given.1)

pub words_fit : (given : Turns) → AreWords (turns_seen given)
words_fit given = (bounds_fit given.bounds, wrapped_fits given.stride)
