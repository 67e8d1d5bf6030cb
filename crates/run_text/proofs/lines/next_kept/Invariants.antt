use Rattle.std.proofs.Common.{◌≡◌, ◌≤◌, ◌+◌, length}
use Rattle.run_text.specs.Kept.{kept_lines}
use Rattle.run_text.proofs.lines.next_kept.Given as goal

abbrev pub invariant-lines : goal.invariant-lines
invariant-lines l = record {
  same : kept_lines l.at l.rest ≡ kept_lines l.fn.number l.fn.text;
  within : l.at + length l.rest ≤ l.fn.number + length l.fn.text;
}

abbrev pub decreases-lines : goal.decreases-lines
decreases-lines l = length l.rest
