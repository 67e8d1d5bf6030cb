use Rattle.std.proofs.Common.{◌≡◌, [], ◌∷◌, None, refl, sym, ap, ◌∙◌, length, replicate, subst}
use Rattle.std.specs.Prelude.{◌≤◌}
use Rattle.ir_core.specs.Places.{register_names}
use Rattle.mem_model.specs.declared.memory.Word.TheVariants.{Int}
use Rattle.mem_model.specs.declared.phase.Phase.TheVariants.{Loops}
use Rattle.mem_model.specs.declared.phase.LoopPoint.TheVariants.{Works}
use Rattle.mem_model.specs.Next.{in_phase}
use Rattle.interp_local.specs.Calls.{put_words}
use Rattle.interp_local.proofs.Entered.{values_size}
use Rattle.interp_local.proofs.Wrapped.{long_too, long_stands, mid_frames, wrapper_goes, wrapper_wants, entered_ok, entered_err}
use Rattle.interp_local.proofs.phases.call_wrapper.Goals as goal

pub put_word-requires-2 : goal.put_word-requires-2
put_word-requires-2 c =
    let names = register_names c.args.m.now c.args.wrapper in
    let params = c.param_count-params.result in
    let new = c.put_word.ensures [] c.in_ok-values.values refl refl in
    let size = values_size names c.register_count-count.result params (Int 0 ∷ []) c.put_word.new.values (new ∙ ap (put_words params (Int 0 ∷ [])) c.in_ok-values.ensures) c.register_count-count.ensures in
    subst (λ n. params ≤ n) (sym size) c.param_count-params.ensures.few

pub returns-in-Ok : goal.returns-in-Ok
returns-in-Ok c = λ f rest frames.
    let m = c.args.m.now in
    let old = c.args.s.now in
    let mid = c.stay.new.self in
    let names = register_names m c.args.wrapper in
    let params = c.param_count-params.result in
    let long = c.requires.long in
    let first = c.put_word.ensures [] c.in_ok-values.values refl refl in
    let second = c.put_word-2.ensures (Int 0 ∷ []) c.in_ok-values.values refl first in
    let are = second ∙ (λ i. put_words (c.param_count-params.ensures.count i) (Int 0 ∷ Int (c.from.ensures i) ∷ []) ((c.in_ok-values.ensures ∙ ap (λ n. replicate n None) c.register_count-count.ensures) i)) in
    let size = values_size names c.register_count-count.result params (Int 0 ∷ Int c.from.result ∷ []) c.put_word-2.new.values (second ∙ ap (put_words params (Int 0 ∷ Int c.from.result ∷ [])) c.in_ok-values.ensures) c.register_count-count.ensures in
    let moves = c.stay.ensures m c.requires.thread long tt in
    let there = mid_frames m old mid c.enter.new.self c.args.wrapper f rest frames moves in
    let stands = long_stands m mid (long_too m old mid f (in_phase (Loops Works) f) rest rest frames there refl long) in
    let entered = c.enter.ensures m moves.0 size (c.in_ok-room.ensures ∙ c.register_count-count.ensures) stands in
    wrapper_goes m old mid c.enter.new.self c.args.wrapper f rest frames moves c.put_word-2.new.values are (entered_ok m c.args.wrapper c.put_word-2.new.values mid c.enter.new.self c.enter.result c.in-Ok.is entered)

pub returns-in-Err : goal.returns-in-Err
returns-in-Err c = λ f rest frames.
    let m = c.args.m.now in
    let old = c.args.s.now in
    let mid = c.stay.new.self in
    let names = register_names m c.args.wrapper in
    let params = c.param_count-params.result in
    let long = c.requires.long in
    let first = c.put_word.ensures [] c.in_ok-values.values refl refl in
    let second = c.put_word-2.ensures (Int 0 ∷ []) c.in_ok-values.values refl first in
    let size = values_size names c.register_count-count.result params (Int 0 ∷ Int c.from.result ∷ []) c.put_word-2.new.values (second ∙ ap (put_words params (Int 0 ∷ Int c.from.result ∷ [])) c.in_ok-values.ensures) c.register_count-count.ensures in
    let moves = c.stay.ensures m c.requires.thread long tt in
    let there = mid_frames m old mid c.enter.new.self c.args.wrapper f rest frames moves in
    let mid_long = long_too m old mid f (in_phase (Loops Works) f) rest rest frames there refl long in
    let entered = c.enter.ensures m moves.0 size (c.in_ok-room.ensures ∙ c.register_count-count.ensures) (long_stands m mid mid_long) in
    let same = entered_err m c.args.wrapper c.put_word-2.new.values mid c.enter.new.self c.enter.result c.in-Err.is entered in
    let still = long_too m mid c.enter.new.self (in_phase (Loops Works) f) (in_phase (Loops Works) f) rest rest there (ap (λ t. t.frames) same.1 ∙ there) refl mid_long in
    wrapper_wants m old mid c.stay-in-Err.new.self c.args.wrapper f rest frames moves c.enter.new.self c.requires.phase same (c.stay-in-Err.ensures m same.0 still tt)
