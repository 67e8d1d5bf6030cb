use Rattle.std.proofs.Common.{◌≡◌, ◌+◌, List, ◌∷◌, [], ◌++◌, length, Some, Ok, refl, sym, ap, ◌∙◌, rules}
use Rattle.std.specs.Prelude.{slice_get}
use Rattle.std.proofs.lemmas.Option.{slice_get_read}
use Rattle.mem_model.specs.declared.memory.Word.{Word}
use Rattle.mem_model.specs.Values.{value_word}
use Rattle.interp_local.specs.Operands.{registers}
use Rattle.interp_local.proofs.Entered.{front_first, front_more, found_last, found_before}
use Rattle.interp_local.proofs.actions.word_at.Goals as goal
use Rattle.interp_local.proofs.actions.word_at.Goals.{then-at-place, else-at-place}

pub loop-arg-init : goal.loop-arg-init
loop-arg-init c = let p = front_first c.args.m.now c.args.s.now c.args.args.now in (refl, p.0, ap (λ (words : List Word). slice_get words c.args.place) p.1)

pub loop-arg-preserved : goal.loop-arg-preserved
loop-arg-preserved c =
    let m = c.args.m.now in
    let s = c.args.s.now in
    let args = c.args.args.now in
    let n = c.loop-arg.arg-index in
    let b = c.loop-arg.invariant in
    let v = c.arg-item.result in
    let there : slice_get args n ≡ Some v = slice_get_read args (length args) n v refl (search rules) (search rules) in
    let word : value_word m (registers m s) v.value ≡ Ok c.in_ok-word.word = sym c.value_word.ensures ∙ c.in_ok-word.was in
    let p = front_more m s args n b.1 v there c.in_ok-word.word word in
    let size : length b.1.front ≡ c.loop-arg.at = b.1.count ∙ sym b.0 in
    let found : c.if-at-place.found ≡ slice_get (b.1.front ++ c.in_ok-word.word ∷ []) c.args.place =
    elim c.if-at-place.branch [
      | then-at-place w ↦ w.found-is ∙ sym (found_last b.1.front c.in_ok-word.word c.args.place (size ∙ w.if-at-place.true))
      | else-at-place w ↦ w.found-is ∙ b.2 ∙ sym (found_before b.1.front c.in_ok-word.word c.args.place (λ e. w.if-at-place.false (sym size ∙ e)))
    ] in
    (ap (λ k. k + 1) b.0, p.0, found ∙ ap (λ (words : List Word). slice_get words c.args.place) p.1)
