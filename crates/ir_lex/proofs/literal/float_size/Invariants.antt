use Rattle.std.proofs.Common.{length, ◌-◌, ◌≡◌, ◌≤◌, drop}
use Rattle.ir_core.specs.Scan.{is_float, longest}
use Rattle.ir_lex.specs.Scanned.{literal_seen}
use Rattle.ir_lex.proofs.LiteralSteps.{with_rest}
use Rattle.ir_lex.proofs.literal.float_size.Given as goal

-- the longest front is the one so far, or goes on behind it
abbrev pub invariant-bytes : goal.invariant-bytes
invariant-bytes l = record { inside : l.n ≤ length l.text; small : l.size ≤ l.n; value : longest is_float (literal_seen l.fn.start) l.text ≡ with_rest l.n l.size (longest is_float (literal_seen l.literal) (drop l.n l.text)) }

abbrev pub decreases-bytes : goal.decreases-bytes
decreases-bytes l = length l.text - l.n
