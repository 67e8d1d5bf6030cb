use Rattle.std.proofs.Common.{length, ◌-◌, ◌≡◌, drop}
use Rattle.ir_core.specs.Bytes.{Blank}
use Rattle.ir_core.specs.Scan.{class_at}
use Rattle.ir_lex.specs.Scanned.{IsGap}
use Rattle.ir_lex.proofs.gaps.skip_gaps.Given as goal

abbrev pub invariant-comments : goal.invariant-comments
invariant-comments l = IsGap l.text l.fn.start l.place × (class_at (drop l.place.at l.text) ≡ Blank → ⊥)

abbrev pub decreases-comments : goal.decreases-comments
decreases-comments l = length l.text - l.place.at
