use Rattle.std.proofs.Common.{length, ◌-◌, ◌≡◌, ◌≤◌, drop}
use Rattle.ir_core.specs.Scan.{is_no_literal, longest}
use Rattle.ir_core.specs.Scan as scan
use Rattle.ir_lex.specs.Scanned.{literal_seen}
use Rattle.ir_lex.proofs.LiteralSteps.{with_rest}
use Rattle.ir_lex.proofs.literal.no_literal_size.Given as goal

-- the longest front is the one so far, or goes on behind it
abbrev pub invariant-bytes : goal.invariant-bytes
invariant-bytes l = record { inside : l.n ≤ length l.text; small : l.size ≤ l.n; value : longest is_no_literal scan.Minus l.text ≡ with_rest l.n l.size (longest is_no_literal (literal_seen l.literal) (drop l.n l.text)) }

abbrev pub decreases-bytes : goal.decreases-bytes
decreases-bytes l = length l.text - l.n
