use Rattle.std.proofs.Common.{◌≡◌, drop}
use Rattle.ir_core.specs.Places.{leading_phis}
use Rattle.mem_model.specs.Answers.{only_trap}
use Rattle.interp_local.specs.Operands.{registers}
use Rattle.interp_local.specs.Phis.{phi_words}
use Rattle.interp_local.proofs.phis.look_phis.Given as goal

-- each phi before this one has a word
abbrev pub invariant-loop-inst : goal.invariant-loop-inst
invariant-loop-inst l = only_trap (phi_words l.m (registers l.m l.s) l.from (leading_phis (drop l.inst-index l.insts))) ≡ only_trap (phi_words l.m (registers l.m l.s) l.from (leading_phis l.insts))
