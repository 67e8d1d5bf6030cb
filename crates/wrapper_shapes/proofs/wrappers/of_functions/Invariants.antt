use Rattle.std.proofs.Common.{◌≡◌, take}
use Rattle.std.specs.List.{flat_map}
use Rattle.ir_core.specs.NameRefusals.{least}
use Rattle.shapes.specs.Wrappers as spec
use Rattle.wrapper_shapes.proofs.wrappers.of_functions.Given as goal

abbrev pub invariant-loop-f : goal.invariant-loop-f
invariant-loop-f l = l.found ≡ least (flat_map (spec.of_function l.m) (take l.f-index l.functions))
