use Rattle.std.specs.Prelude.{◌≡◌, slice_get}
use Rattle.interp_local.proofs.Entered.{Reads}
use Rattle.interp_local.proofs.actions.word_at.Given as goal

-- the words of the operands before this one are known, and the one at the place where it is among them
abbrev pub invariant-loop-arg : goal.invariant-loop-arg
invariant-loop-arg l = (l.at ≡ l.arg-index) × (read : Reads l.m l.s l.args l.arg-index) × (l.found ≡ slice_get read.front l.place)
