use Rattle.interp_local.proofs.Entered.{Binds}
use Rattle.interp_local.proofs.calls.bind.Given as goal

abbrev pub invariant-loop-arg : goal.invariant-loop-arg
invariant-loop-arg l = Binds l.m l.s l.args l.params l.initial.values l.values l.arg-index l.at
