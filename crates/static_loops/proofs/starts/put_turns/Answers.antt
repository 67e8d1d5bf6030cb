use Rattle.std.proofs.Common.{◌≡◌, ℕ, List, Result, sym, ap, ◌∙◌, subst}
use Rattle.mem_model.specs.declared.memory.Cell.TheVariants.{Int as IntCell}
use Rattle.mem_model.specs.declared.memory.Word.TheVariants.{Int}
use Rattle.mem_model.specs.declared.step.Trap.{Trap}
use Rattle.mem_model.specs.Eval.{truth}
use Rattle.mem_model.specs.Values.{and_then}
use Rattle.mem_model.specs.Thread.{Frame}
use Rattle.mem_model.specs.Entries.{put_own, put_bounds}
use Rattle.thread_state.specs.Seen.{thread_seen}
use Rattle.static_loops.specs.Starts.{spot_seen, spots_seen, IsPutWhere}
use Rattle.static_loops.proofs.Stores.{truth_byte, words_put}
use Rattle.static_loops.proofs.Goes.{where_put, where_err, where_then}
use Rattle.static_loops.proofs.starts.put_turns.Goals as goal

pub returns-in_err-put_bounds-clause-put : goal.returns-in_err-put_bounds-clause-put
returns-in_err-put_bounds-clause-put c = λ m given is same.
    let s = c.args.s.now in
    let mid = c.put.new.s in
    let new = c.put_bounds.new.s in
    let fs : List Frame = (thread_seen m s).frames in
    let spots = c.args.spots in
    let n : ℕ = c.from.result in
    let number : n ≡ truth c.args.turns.last = c.from.ensures ∙ truth_byte c.args.turns.last in
    let first : Result (List Frame) Trap = put_own fs (spot_seen spots.last) (IntCell 32) (Int n) in
    let bounds : List Frame → Result (List Frame) Trap = put_bounds (spots_seen spots) given.bounds in
    let go : List Frame → Result (List Frame) Trap = λ hs. put_own hs (spot_seen spots.stride) (IntCell 32) (Int c.args.turns.stride) in
    subst (λ r. IsPutWhere m s new r c.from_residual-in_err-put_bounds.result) (sym (words_put (spots_seen spots) fs c.args.turns given n same number))
    (where_then m s mid new first (λ gs. and_then (bounds gs) go) c.put.result c.from_residual-in_err-put_bounds.result (where_put m s mid first c.put.result (c.put.ensures.put m is))
    (λ thread.
    let fails = subst (λ r. IsPutWhere {U = Unit {0}} m mid new (bounds (thread_seen m mid).frames) r) c.in_err-put_bounds.was (c.put_bounds.ensures.put m given.bounds thread (ap (λ t. t.bounds) same)) in
    where_err (Unit {0}) m mid new new (bounds (thread_seen m mid).frames) go c.in_err-put_bounds.field-0.0 c.from_residual-in_err-put_bounds.result fails))

pub returns-clause-put : goal.returns-clause-put
returns-clause-put c = λ m given is same.
    let s = c.args.s.now in
    let mid = c.put.new.s in
    let then = c.put_bounds.new.s in
    let new = c.put-2.new.s in
    let fs : List Frame = (thread_seen m s).frames in
    let spots = c.args.spots in
    let n : ℕ = c.from.result in
    let number : n ≡ truth c.args.turns.last = c.from.ensures ∙ truth_byte c.args.turns.last in
    let first : Result (List Frame) Trap = put_own fs (spot_seen spots.last) (IntCell 32) (Int n) in
    let bounds : List Frame → Result (List Frame) Trap = put_bounds (spots_seen spots) given.bounds in
    let go : List Frame → Result (List Frame) Trap = λ hs. put_own hs (spot_seen spots.stride) (IntCell 32) (Int c.args.turns.stride) in
    subst (λ r. IsPutWhere m s new r c.put-2.result) (sym (words_put (spots_seen spots) fs c.args.turns given n same number))
    (where_then m s mid new first (λ gs. and_then (bounds gs) go) c.put.result c.put-2.result (where_put m s mid first c.put.result (c.put.ensures.put m is))
    (λ thread. where_then m mid then new (bounds (thread_seen m mid).frames) go c.put_bounds.result c.put-2.result (c.put_bounds.ensures.put m given.bounds thread (ap (λ t. t.bounds) same))
    (λ after. where_put m then new (go (thread_seen m then).frames) c.put-2.result (c.put-2.ensures.put m after))))
