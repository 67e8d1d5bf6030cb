use Rattle.std.proofs.Common.{length, reverse, refl, sym, ◌∙◌, subst}
use Rattle.ir_core.specs.Places.{register_names}
use Rattle.mem_model.specs.Launching.{arg_words, params_of}
use Rattle.std.specs.Prelude.{slice_get}
use Rattle.thread_state.specs.declared.state.ThreadState.{ThreadState as ThreadData}
use Rattle.thread_state.specs.Seen.{StandsAtCall}
use Rattle.interp_local.proofs.Entered.{values_size, entered_ok}
use Rattle.interp.proofs.Started.{idle_thread, begun_seen}
use Rattle.interp.proofs.start.first_thread.Goals as goal

pub returns : goal.returns
returns c =
    let m = c.args.m.now in
    let l = c.args.l.now in
    let k = c.in-Some.place in
    let values = c.in_ok-values.values in
    let s : ThreadData = record { own = c.args.own; size = c.args.l.now.threads; enters = c.args.enters; counter = 0; frames = c.new.result; stack = c.new-2.result; answers = c.args.answers } in
    let names = register_names m k in
    let size = values_size names (length names) (length (params_of (slice_get m.functions k))) (arg_words 0 l.args) values c.in_ok-values.ensures refl in
    let outermost = subst (λ fs. StandsAtCall m (reverse fs)) (sym c.new.ensures.items) tt in
    let entered = c.enter.ensures m (idle_thread m s c.new.ensures.items c.new-2.ensures.items c.requires.spmd) size (c.in_ok-room.ensures ∙ c.register_count.ensures) outermost in
    begun_seen m l s refl c.new.ensures.items k c.enter.new.self values (sym c.in-Some.ensures) c.in_ok-values.ensures
    (entered_ok m k values s c.enter.new.self c.enter.result c.in_ok-enter.field-0 entered c.in_ok-enter.was)
