use Rattle.std.proofs.Common.{arith, ◌≡◌, ◌+◌, [], ◌∷◌, Err, length, refl, sym, ap, ◌∙◌, rules}
use Rattle.std.proofs.lemmas.Int.{ints}
use Rattle.std.proofs.lemmas.List.{length-append}
use Rattle.mem_model.specs.Thread.{find_in}
use Rattle.thread_state.specs.Seen.{thread_seen}
use Rattle.captures.proofs.Gathers.{behind_none, gathers, traps}
use Rattle.captures.proofs.words.words_from.Goals as goal

pub returns-in_err-word : goal.returns-in_err-word
returns-in_err-word c = λ m is.
    let spot = c.args.spot in
    let result : c.from_residual.result ≡ Err c.in_err-word.field-0.0 = search rules in
    result ∙ sym (traps (find_in (thread_seen m c.args.s.now).frames (spot.thread, spot.number)) c.loop-at.words c.in_err-word.field-0.0 spot.offset c.loop-at.at c.args.count c.loop-at-test.true (sym (c.word.ensures.value m is) ∙ c.in_err-word.was) (c.loop-at.invariant.1 m is))

pub loop-at-init : goal.loop-at-init
loop-at-init c = (
  ap length c.new-words.ensures,
  λ m is. behind_none (find_in (thread_seen m c.args.s.now).frames (c.args.spot.thread, c.args.spot.number)) c.new-words.result c.args.spot.offset _ c.args.count _ c.new-words.ensures (omega (arith, ints)) (omega arith),
)

pub loop-at-preserved : goal.loop-at-preserved
loop-at-preserved c =
    let spot = c.args.spot in
    let p = c.in_ok-word.field-0 in (
      ap length c.push.ensures ∙ length-append c.loop-at.words (p ∷ []) ∙ ap (λ n. n + 1) c.loop-at.invariant.0,
      λ m is. gathers (find_in (thread_seen m c.args.s.now).frames (spot.thread, spot.number)) c.loop-at.words c.push.new.self p spot.offset c.loop-at.at c.args.count c.loop-at-test.true c.push.ensures (sym (c.word.ensures.value m is) ∙ c.in_ok-word.was) (c.loop-at.invariant.1 m is),
    )
