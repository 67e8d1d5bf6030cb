use Rattle.std.proofs.Common.{length, ◌-◌}
use Rattle.ir_lex.specs.Scanned.{IsGap}
use Rattle.ir_lex.proofs.gaps.skip_blanks.Given as goal

abbrev pub invariant-blanks : goal.invariant-blanks
invariant-blanks l = IsGap l.text l.fn.start l.place

abbrev pub decreases-blanks : goal.decreases-blanks
decreases-blanks l = length l.text - l.place.at
