use Rattle.std.proofs.Common.{pos, ◌*◌, ◌+ℤ◌, ap, ◌∙◌, arith, rules}
use Rattle.std.specs.Int.{w64, saturate_to_bits}
use Rattle.std.proofs.lemmas.Int.{to_z-of_z, ints}
use Rattle.mem_model.specs.Thread.{find_in}
use Rattle.thread_state.specs.Seen.{thread_seen}
use Rattle.captures.proofs.Blocks.{spot_short}
use Rattle.captures.proofs.Gathers.{word_is, word_traps}
use Rattle.captures.proofs.words.word.Goals as goal

pub returns-in_err-load-clause-value : goal.returns-in_err-load-clause-value
returns-in_err-load-clause-value c = λ m is.
    let s = c.args.s.now in
    let spot = c.args.spot in
    word_traps (find_in (thread_seen m s).frames (spot.thread, spot.number)) (spot_short m s spot.thread spot.number is c.requires.short) (spot.offset +ℤ pos (8 * c.args.at)) _ (to_z-of_z w64 _ (search rules) ∙ c.saturating_add-offset.ensures ∙ ap (saturate_to_bits 63) (omega (arith, ints))) c.load.result (c.load.ensures m is) c.in_err-load.field-0.0 c.from_residual.result c.in_err-load.was (search rules)

pub returns-clause-value : goal.returns-clause-value
returns-clause-value c = λ m is.
    let s = c.args.s.now in
    let spot = c.args.spot in
    word_is (find_in (thread_seen m s).frames (spot.thread, spot.number)) (spot_short m s spot.thread spot.number is c.requires.short) (spot.offset +ℤ pos (8 * c.args.at)) _ (to_z-of_z w64 _ (search rules) ∙ c.saturating_add-offset.ensures ∙ ap (saturate_to_bits 63) (omega (arith, ints))) c.load.result (c.load.ensures m is) c.in_ok-load.field-0 c.shared.result c.in_ok-load.was c.shared.ensures.value
