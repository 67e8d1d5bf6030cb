use Rattle.std.proofs.Common.{◌≡◌, length, Some, None, Err, sym, ap, ◌∙◌, subst, rules, replicate}
use Rattle.ir_core.specs.declared.answers.Or.TheVariants.{Memory as WantOfMemory}
use Rattle.ir_core.specs.Places.{register_names}
use Rattle.mem_model.specs.Values.{operand_words}
use Rattle.mem_model.specs.Next.{defined_at, next_call}
use Rattle.thread_state.specs.Seen.{thread_seen}
use Rattle.interp_local.specs.Operands.{registers}
use Rattle.interp_local.specs.Actions.{arguments}
use Rattle.interp_local.specs.Calls.{put_words, AreBound}
use Rattle.interp_local.specs.Steps.{IsTried}
use Rattle.interp_local.proofs.Entered.{ok_is, values_size, entered_ok, entered_err, stands_at, call_goes, bound_ok}
use Rattle.interp_local.proofs.Begins.{thread_begins}
use Rattle.interp_local.proofs.calls.call.Goals as goal

pub returns-in_err-enter : goal.returns-in_err-enter
returns-in_err-enter c = λ f rest frames.
    let m = c.args.m.now in
    let s = c.args.s.now in
    let i = c.args.inst.now in
    let k = c.args.place in
    let g = c.in-Some.function.now in
    let count_is : c.register_count-count.result ≡ length (register_names m k) = c.register_count-count.ensures in
    let start : c.in_ok-values.values ≡ replicate c.register_count-count.result None = ok_is (λ vs. vs ≡ replicate c.register_count-count.result None) c.no_values.result c.in_ok-values.values c.no_values.ensures c.in_ok-values.was in
    let bound = bound_ok (operand_words m (registers m s) c.arguments-args.result.now) c.len.result c.in_ok-values.values c.bind.new.values c.in_default-bind.field-0 (subst (λ r. AreBound (operand_words m (registers m s) c.arguments-args.result.now) c.len.result c.in_ok-values.values c.bind.new.values r) c.in_default-bind.is c.bind.ensures) in
    let are : c.bind.new.values ≡ put_words c.len.result bound.0 (replicate c.register_count-count.result None) = bound.2 ∙ ap (put_words c.len.result bound.0) start in
    let room : length c.in_ok-room.room ≡ length (register_names m k) = ok_is (λ r. length r ≡ c.register_count-count.result) c.room_for.result c.in_ok-room.room c.room_for.ensures c.in_ok-room.was ∙ count_is in
    let entered = c.enter.ensures m c.requires.thread (values_size (register_names m k) c.register_count-count.result c.len.result bound.0 c.bind.new.values are count_is) room (stands_at m s i c.requires.stands) in
    let want : c.from_residual-in_err-enter.result ≡ Err WantOfMemory = search rules in
    subst (λ r. IsTried (Unit {0}) m s c.enter.new.self (next_call m (thread_seen m s) f rest i.result (arguments i.kind) (defined_at m (Some k))) r) (sym want)
    (entered_err m k c.bind.new.values s c.enter.new.self c.enter.result c.in_err-enter.field-0.0 entered c.in_err-enter.was, tt)

pub returns : goal.returns
returns c = λ f rest frames.
    let m = c.args.m.now in
    let s = c.args.s.now in
    let i = c.args.inst.now in
    let k = c.args.place in
    let g = c.in-Some.function.now in
    let count_is : c.register_count-count.result ≡ length (register_names m k) = c.register_count-count.ensures in
    let start : c.in_ok-values.values ≡ replicate c.register_count-count.result None = ok_is (λ vs. vs ≡ replicate c.register_count-count.result None) c.no_values.result c.in_ok-values.values c.no_values.ensures c.in_ok-values.was in
    let bound = bound_ok (operand_words m (registers m s) c.arguments-args.result.now) c.len.result c.in_ok-values.values c.bind.new.values c.in_default-bind.field-0 (subst (λ r. AreBound (operand_words m (registers m s) c.arguments-args.result.now) c.len.result c.in_ok-values.values c.bind.new.values r) c.in_default-bind.is c.bind.ensures) in
    let are : c.bind.new.values ≡ put_words c.len.result bound.0 (replicate c.register_count-count.result None) = bound.2 ∙ ap (put_words c.len.result bound.0) start in
    let room : length c.in_ok-room.room ≡ length (register_names m k) = ok_is (λ r. length r ≡ c.register_count-count.result) c.room_for.result c.in_ok-room.room c.room_for.ensures c.in_ok-room.was ∙ count_is in
    let entered = c.enter.ensures m c.requires.thread (values_size (register_names m k) c.register_count-count.result c.len.result bound.0 c.bind.new.values are count_is) room (stands_at m s i c.requires.stands) in
    let body = c.in-Some.ensures in
    call_goes m s c.enter.new.self i k g bound.0 c.bind.new.values (arguments i.kind) f rest (thread_begins s c.requires.begins) c.requires.stands frames body.0 body.1
    (ap (operand_words m (registers m s)) (sym c.arguments-args.ensures) ∙ bound.1)
    (are ∙ (λ j. put_words (c.len.ensures j) bound.0 (replicate (count_is j) None)))
    (entered_ok m k c.bind.new.values s c.enter.new.self c.enter.result c.in_ok-enter.field-0 entered c.in_ok-enter.was)
