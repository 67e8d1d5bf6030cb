use Rattle.std.proofs.Common.{◌≡◌, ◌≤◌, ◌+◌, length}
use Rattle.run_text.specs.Lines.{lines, numbered}
use Rattle.run_text.specs.ScheduleText.{pairs_in}
use Rattle.run_text.proofs.Pairs.{put_before}
use Rattle.run_text.proofs.schedule.read_pairs.Given as goal

-- the pairs read so far, before those of the rest, are all
abbrev pub invariant-lines : goal.invariant-lines
invariant-lines l = record {
  all : pairs_in l.threads (numbered 1 (lines l.fn.text)) ≡ put_before l.pairs (pairs_in l.threads (numbered l.number (lines l.rest)));
  within : l.number + length l.rest ≤ length l.fn.text + 1;
}

abbrev pub decreases-lines : goal.decreases-lines
decreases-lines l = length l.rest
