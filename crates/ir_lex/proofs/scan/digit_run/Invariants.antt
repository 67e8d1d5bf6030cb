use Rattle.std.proofs.Common.{length, ◌-◌, ◌≡◌, ◌+◌, ◌≤◌, drop}
use Rattle.ir_core.specs.Bytes.{digit_byte}
use Rattle.ir_core.specs.Scan.{run}
use Rattle.ir_lex.proofs.scan.digit_run.Given as goal

-- the bytes so far are of the run
abbrev pub invariant-loop-n : goal.invariant-loop-n
invariant-loop-n l = (l.n ≤ length l.text) × (run digit_byte l.text ≡ l.n + run digit_byte (drop l.n l.text))

abbrev pub decreases-loop-n : goal.decreases-loop-n
decreases-loop-n l = length l.text - l.n
