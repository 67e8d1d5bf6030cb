use Rattle.std.proofs.Common.{◌≡◌, ◌++◌, take, codes}
use Rattle.ir_core.specs.Text.{all_led}
use Rattle.ir_print.proofs.writer.Writer.led_words.Given as goal

abbrev pub invariant-loop-word : goal.invariant-loop-word
invariant-loop-word l = l.self ≡ l.initial.self ++ all_led (codes " ") (take l.word-index l.words)
