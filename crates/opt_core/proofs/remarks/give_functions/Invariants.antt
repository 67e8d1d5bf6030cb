use Rattle.std.proofs.Common.{◌≡◌, ◌++◌, take}
use Rattle.std.specs.List.{flat_map}
use Rattle.ir_core.specs.MachineOff.{function_init_lines}
use Rattle.opt_core.proofs.remarks.give_functions.Given as goal

abbrev pub invariant-loop-f : goal.invariant-loop-f
invariant-loop-f l = l.out ≡ l.initial.out ++ flat_map function_init_lines (take l.f-index l.functions)
