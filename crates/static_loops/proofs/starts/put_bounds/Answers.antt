use Rattle.std.proofs.Common.{List, Result, sym, subst}
use Rattle.mem_model.specs.declared.memory.Cell.TheVariants.{Int as IntCell}
use Rattle.mem_model.specs.declared.memory.Word.TheVariants.{Int}
use Rattle.mem_model.specs.declared.step.Trap.{Trap}
use Rattle.mem_model.specs.Thread.{Frame}
use Rattle.mem_model.specs.Entries.{put_own}
use Rattle.thread_state.specs.Seen.{thread_seen}
use Rattle.static_loops.specs.Starts.{spot_seen, spots_seen, IsPut, IsPutWhere}
use Rattle.static_loops.proofs.Stores.{some_bounds}
use Rattle.static_loops.proofs.Goes.{where_put, where_err, where_then}
use Rattle.static_loops.proofs.starts.put_bounds.Goals as goal

pub returns-in_err-put-clause-put : goal.returns-in_err-put-clause-put
returns-in_err-put-clause-put c = λ m given is same.
    let s = c.args.s.now in
    let mid = c.put.new.s in
    let fs : List Frame = (thread_seen m s).frames in
    let spots = c.args.spots in
    let bounds = c.in-Some.bounds in
    let first : Result (List Frame) Trap = put_own fs (spot_seen spots.lower) (IntCell 32) (Int bounds.lower) in
    let go : List Frame → Result (List Frame) Trap = λ gs. put_own gs (spot_seen spots.upper) (IntCell 32) (Int bounds.upper) in
    let fails = subst (λ r. IsPut {U = Unit {0}} m s mid first r) c.in_err-put.was (c.put.ensures.put m is) in
    subst (λ r. IsPutWhere m s mid r c.from_residual.result) (sym (some_bounds (spots_seen spots) fs c.args.bounds bounds given c.in-Some.is same))
    (where_err (Unit {0}) m s mid mid first go c.in_err-put.field-0.0 c.from_residual.result (where_put m s mid first _ fails))

pub returns-clause-put : goal.returns-clause-put
returns-clause-put c = λ m given is same.
    let s = c.args.s.now in
    let mid = c.put.new.s in
    let new = c.put-2.new.s in
    let fs : List Frame = (thread_seen m s).frames in
    let spots = c.args.spots in
    let bounds = c.in-Some.bounds in
    let first : Result (List Frame) Trap = put_own fs (spot_seen spots.lower) (IntCell 32) (Int bounds.lower) in
    let go : List Frame → Result (List Frame) Trap = λ gs. put_own gs (spot_seen spots.upper) (IntCell 32) (Int bounds.upper) in
    subst (λ r. IsPutWhere m s new r c.put-2.result) (sym (some_bounds (spots_seen spots) fs c.args.bounds bounds given c.in-Some.is same))
    (where_then m s mid new first go c.put.result c.put-2.result (where_put m s mid first c.put.result (c.put.ensures.put m is))
    (λ thread. where_put m mid new (go (thread_seen m mid).frames) c.put-2.result (c.put-2.ensures.put m thread)))
