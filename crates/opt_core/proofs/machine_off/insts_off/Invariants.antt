use Rattle.std.proofs.Common.{◌≡◌, map, take}
use Rattle.ir_core.specs.MachineOff.{inst_off}
use Rattle.opt_core.proofs.machine_off.insts_off.Given as goal

abbrev pub invariant-loop-inst : goal.invariant-loop-inst
invariant-loop-inst l = l.out ≡ map inst_off (take l.inst-index l.insts)
