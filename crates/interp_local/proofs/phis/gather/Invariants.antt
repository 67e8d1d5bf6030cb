use Rattle.interp_local.proofs.Branches.{Gathers}
use Rattle.interp_local.proofs.phis.gather.Given as goal

abbrev pub invariant-loop-inst : goal.invariant-loop-inst
invariant-loop-inst l = Gathers l.m l.from l.insts l.initial.s l.s l.inst-index l.kept
