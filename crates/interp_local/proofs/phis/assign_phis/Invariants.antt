use Rattle.interp_local.proofs.Branches.{Assigns}
use Rattle.interp_local.proofs.phis.assign_phis.Given as goal

abbrev pub invariant-loop-inst : goal.invariant-loop-inst
invariant-loop-inst l = Assigns l.m l.insts l.initial.s l.s l.inst-index l.count l.kept
