use Rattle.std.proofs.Common.{◌≡◌, ◌++◌, take}
use Rattle.std.specs.List.{flat_map}
use Rattle.ir_core.specs.Text.{line_text}
use Rattle.ir_print.proofs.writer.Writer.lines.Given as goal

abbrev pub invariant-loop-line : goal.invariant-loop-line
invariant-loop-line l = l.self ≡ l.initial.self ++ flat_map line_text (take l.line-index l.lines)
