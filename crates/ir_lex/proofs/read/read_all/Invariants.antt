use Rattle.std.proofs.Common.{length, ◌-◌}
use Rattle.ir_lex.specs.Scanned.{SoFar}
use Rattle.ir_lex.proofs.read.read_all.Given as goal

abbrev pub invariant-tokens : goal.invariant-tokens
invariant-tokens l = SoFar l.text l.tokens l.place

abbrev pub decreases-tokens : goal.decreases-tokens
decreases-tokens l = length l.text - l.place.at
