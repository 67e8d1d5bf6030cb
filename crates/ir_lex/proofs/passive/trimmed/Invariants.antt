use Rattle.std.proofs.Common.{length, take, ◌≡◌, ◌≤◌}
use Rattle.ir_core.specs.Scan.{trimmed}
use Rattle.ir_lex.proofs.passive.trimmed.Given as goal

-- what is cut is blank
abbrev pub invariant-blanks : goal.invariant-blanks
invariant-blanks l = record { inside : l.size ≤ length l.line; value : trimmed (take l.size l.line) ≡ trimmed l.line }

abbrev pub decreases-blanks : goal.decreases-blanks
decreases-blanks l = l.size
