use Rattle.std.proofs.Common.{◌≡◌, ◌≤◌, ◌+◌, length}
use Rattle.run_text.specs.Lines.{lines}
use Rattle.run_text.proofs.lines.line_count.Given as goal

abbrev pub invariant-lines : goal.invariant-lines
invariant-lines l = record {
  all : l.count + length (lines l.rest) ≡ length (lines l.fn.text);
  within : l.count + length l.rest ≤ length l.fn.text;
}

abbrev pub decreases-lines : goal.decreases-lines
decreases-lines l = length l.rest
