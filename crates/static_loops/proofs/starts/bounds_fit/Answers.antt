use Rattle.std.proofs.Common.{◌≡◌, List, Err, sym, ap, ◌∙◌, rules}
use Rattle.mem_model.specs.Values.{and_then}
use Rattle.mem_model.specs.Thread.{Frame}
use Rattle.mem_model.specs.Answers.{only_trap}
use Rattle.thread_state.specs.Seen.{thread_seen}
use Rattle.static_loops.specs.Starts.{spots_seen}
use Rattle.static_loops.proofs.Stores.{none_bounds, some_fits, upper_fits}
use Rattle.static_loops.proofs.starts.bounds_fit.Goals as goal

pub returns-in_default : goal.returns-in_default
returns-in_default c = λ m given is same. sym (ap only_trap (none_bounds (spots_seen c.args.spots) (thread_seen m c.args.s.now).frames c.args.bounds given c.in_default.not-Some same))

pub returns-in_err-reaches : goal.returns-in_err-reaches
returns-in_err-reaches c = λ m given is same.
    let fs : List Frame = (thread_seen m c.args.s.now).frames in
    let out : c.from_residual.result ≡ Err c.in_err-reaches.field-0.0 = search rules in
    out ∙ sym (some_fits c.args.spots fs c.args.bounds _ given c.in-Some.is same ∙ ap (λ r. and_then r (λ u. upper_fits c.args.spots fs)) (sym (c.reaches.ensures m 0 is) ∙ c.in_err-reaches.was))

pub returns : goal.returns
returns c = λ m given is same.
    let fs : List Frame = (thread_seen m c.args.s.now).frames in
    c.reaches-2.ensures m 0 is ∙ sym (some_fits c.args.spots fs c.args.bounds _ given c.in-Some.is same ∙ ap (λ r. and_then r (λ u. upper_fits c.args.spots fs)) (sym (c.reaches.ensures m 0 is) ∙ c.in_ok-reaches.was))
