use Rattle.std.proofs.Common.{sym, ◌∙◌, subst, rules}
use Rattle.mem_model.specs.Entries.{put_turns}
use Rattle.thread_state.specs.Seen.{thread_seen}
use Rattle.static_loops.specs.Starts.{spots_seen, IsPutWhere}
use Rattle.static_loops.proofs.Goes.{not_fitting, never_fails, goes}
use Rattle.static_loops.proofs.starts.go_with.Goals as goal

pub returns-in_err-turns_fit : goal.returns-in_err-turns_fit
returns-in_err-turns_fit c = λ m f rest given is frames same.
    not_fitting m c.args.s.now f rest c.args.spots given frames c.in_err-turns_fit.field-0.0 c.from_residual.result is (sym c.in_err-turns_fit.was ∙ c.turns_fit.ensures m given is same) (search rules)

pub returns-in_err-put_turns : goal.returns-in_err-put_turns
returns-in_err-put_turns c = λ m f rest given is frames same.
    let s = c.args.s.now in
    let fails = subst (λ r. IsPutWhere {U = Unit {0}} m s c.put_turns.new.s (put_turns (spots_seen c.args.spots) given (thread_seen m s).frames) r) c.in_err-put_turns.was (c.put_turns.ensures.put m given is same) in
    absurd (never_fails m s f rest c.args.spots given frames (Unit {0}) c.put_turns.new.s c.in_err-put_turns.field-0.0 (sym c.in_ok-turns_fit.was ∙ c.turns_fit.ensures m given is same) fails)

pub returns : goal.returns
returns c = λ m f rest given is frames same.
    let s = c.args.s.now in
    let done = subst (λ r. IsPutWhere {U = Unit {0}} m s c.put_turns.new.s (put_turns (spots_seen c.args.spots) given (thread_seen m s).frames) r) c.in_ok-put_turns.was (c.put_turns.ensures.put m given is same) in
    goes m s f rest c.args.spots given frames c.put_turns.new.s c.go_past.new.self c.in_ok-put_turns.field-0 tt (sym c.in_ok-turns_fit.was ∙ c.turns_fit.ensures m given is same) done (λ mid. c.go_past.ensures m mid)
