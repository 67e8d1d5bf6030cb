use Rattle.std.specs.Prelude.{◌≡◌}
use Rattle.interp_local.specs.Actions.{words_given}
use Rattle.interp_local.proofs.Entered.{Reads}
use Rattle.interp_local.proofs.actions.given.Given as goal

-- the words are those of the operands before this one
abbrev pub invariant-loop-arg : goal.invariant-loop-arg
invariant-loop-arg l = (read : Reads l.m l.s l.args l.arg-index) × (l.words ≡ words_given read.front)
