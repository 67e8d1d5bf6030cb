use Rattle.std.proofs.Common.{◌≡◌, List, Err, sym, ap, ◌∙◌, rules}
use Rattle.mem_model.specs.Values.{and_then}
use Rattle.mem_model.specs.Thread.{Frame}
use Rattle.thread_state.specs.Seen.{thread_seen}
use Rattle.static_loops.proofs.Stores.{turns_are, stride_fits}
use Rattle.static_loops.proofs.starts.turns_fit.Goals as goal

pub returns-in_err-bounds_fit : goal.returns-in_err-bounds_fit
returns-in_err-bounds_fit c = λ m given is same.
    let fs : List Frame = (thread_seen m c.args.s.now).frames in
    let out : c.from_residual-in_err-bounds_fit.result ≡ Err c.in_err-bounds_fit.field-0.0 = search rules in
    let first = sym (c.reaches.ensures m 0 is) ∙ c.in_ok-reaches.was in
    let second = sym (c.bounds_fit.ensures m given.bounds is (ap (λ t. t.bounds) same)) ∙ c.in_err-bounds_fit.was in
    out ∙ sym (turns_are c.args.spots fs given ∙ (λ i. and_then (first i) (λ u. and_then (second i) (λ v. stride_fits c.args.spots fs))))

pub returns : goal.returns
returns c = λ m given is same.
    let fs : List Frame = (thread_seen m c.args.s.now).frames in
    let first = sym (c.reaches.ensures m 0 is) ∙ c.in_ok-reaches.was in
    let second = sym (c.bounds_fit.ensures m given.bounds is (ap (λ t. t.bounds) same)) ∙ c.in_ok-bounds_fit.was in
    c.reaches-2.ensures m 0 is ∙ sym (turns_are c.args.spots fs given ∙ (λ i. and_then (first i) (λ u. and_then (second i) (λ v. stride_fits c.args.spots fs))))
