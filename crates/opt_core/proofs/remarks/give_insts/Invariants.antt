use Rattle.std.proofs.Common.{◌≡◌, ◌++◌, take}
use Rattle.std.specs.List.{flat_map}
use Rattle.ir_core.specs.MachineOff.{inst_init_lines}
use Rattle.opt_core.proofs.remarks.give_insts.Given as goal

abbrev pub invariant-loop-inst : goal.invariant-loop-inst
invariant-loop-inst l = l.out ≡ l.initial.out ++ flat_map inst_init_lines (take l.inst-index l.insts)
