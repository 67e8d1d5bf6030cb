use Rattle.std.proofs.Common.{◌≡◌, take}
use Rattle.std.specs.List.{flat_map}
use Rattle.ir_core.specs.NameRefusals.{least}
use Rattle.shape_limits.specs.Sizes.{of_type}
use Rattle.shape_limits.proofs.sizes.of_types.Given as goal

abbrev pub invariant-loop-named : goal.invariant-loop-named
invariant-loop-named l = l.found ≡ least (flat_map (of_type l.m) (take l.named-index l.types))
