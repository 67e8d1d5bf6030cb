use Rattle.std.proofs.Common.{◌≡◌, take}
use Rattle.std.specs.List.{flat_map}
use Rattle.ir_core.specs.NameRefusals.{least}
use Rattle.shapes.specs.KernelShape.{of_function}
use Rattle.kernel_shapes.proofs.kernels.of_functions.Given as goal

abbrev pub invariant-loop-f : goal.invariant-loop-f
invariant-loop-f l = l.found ≡ least (flat_map (of_function l.m) (take l.f-index l.functions))
