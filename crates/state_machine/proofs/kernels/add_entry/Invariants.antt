use Rattle.std.proofs.Common.{◌≡◌, ◌++◌, take, map}
use Rattle.state_machine.specs.Machine.{inst_to}
use Rattle.state_machine.proofs.kernels.add_entry.Given as goal

abbrev pub invariant-loop-inst : goal.invariant-loop-inst
invariant-loop-inst l = l.out ≡ l.initial.out ++ map (inst_to l.exit l.begin) (take l.inst-index l.insts)
