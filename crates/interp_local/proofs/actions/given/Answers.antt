use Rattle.std.proofs.Common.{◌≡◌, length, Some, Ok, refl, sym, ap, ◌∙◌, rules}
use Rattle.std.specs.Prelude.{slice_get}
use Rattle.std.proofs.lemmas.Option.{slice_get_read}
use Rattle.mem_model.specs.Values.{value_word}
use Rattle.interp_local.specs.Operands.{registers}
use Rattle.interp_local.specs.Actions.{words_given}
use Rattle.interp_local.proofs.Entered.{front_first, front_more}
use Rattle.interp_local.proofs.actions.given.Goals as goal

pub loop-arg-init : goal.loop-arg-init
loop-arg-init c = let p = front_first c.args.m.now c.args.s.now c.args.args.now in (p.0, ap words_given p.1)

pub loop-arg-preserved : goal.loop-arg-preserved
loop-arg-preserved c =
    let m = c.args.m.now in
    let s = c.args.s.now in
    let args = c.args.args.now in
    let n = c.loop-arg.arg-index in
    let b = c.loop-arg.invariant in
    let v = c.arg-item.result in
    let there : slice_get args n ≡ Some v = slice_get_read args (length args) n v refl (search rules) (search rules) in
    let word : value_word m (registers m s) v.value ≡ Ok c.in_ok-word.word = sym c.value_word.ensures ∙ c.in_ok-word.was in
    let p = front_more m s args n b.0 v there c.in_ok-word.word word in
    (p.0, c.with_word-words.ensures b.0.front b.1 ∙ ap words_given p.1)
