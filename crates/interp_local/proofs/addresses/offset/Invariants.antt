use Rattle.interp_local.specs.Operands.{registers}
use Rattle.interp_local.proofs.Elements.{Follows}
use Rattle.interp_local.proofs.addresses.offset.Given as goal

abbrev pub invariant-loop-value : goal.invariant-loop-value
invariant-loop-value l = Follows l.m (registers l.m l.s) l.ty l.path l.walk l.value-index
