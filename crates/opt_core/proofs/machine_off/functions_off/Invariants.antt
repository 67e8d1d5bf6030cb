use Rattle.std.proofs.Common.{◌≡◌, map, take}
use Rattle.ir_core.specs.MachineOff.{function_off}
use Rattle.opt_core.proofs.machine_off.functions_off.Given as goal

abbrev pub invariant-loop-f : goal.invariant-loop-f
invariant-loop-f l = l.out ≡ map function_off (take l.f-index l.functions)
