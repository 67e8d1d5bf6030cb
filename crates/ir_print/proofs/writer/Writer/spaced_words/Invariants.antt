use Rattle.std.proofs.Common.{◌≡◌, ◌++◌, take}
use Rattle.ir_core.specs.Text.{spaced_words}
use Rattle.ir_print.proofs.writer.Writer.spaced_words.Given as goal

abbrev pub invariant-loop-word : goal.invariant-loop-word
invariant-loop-word l = l.self ≡ l.initial.self ++ spaced_words (take l.word-index l.words)
