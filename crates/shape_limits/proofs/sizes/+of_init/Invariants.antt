use Rattle.std.proofs.Common.{◌≡◌, take}
use Rattle.std.specs.List.{flat_map}
use Rattle.ir_core.specs.NameRefusals.{least}
use Rattle.shape_limits.specs.Sizes.{of_element}
use Rattle.shape_limits.proofs.sizes.+of_init.Given as goal

abbrev pub invariant-of_parts-loop-part : goal.invariant-of_parts-loop-part
invariant-of_parts-loop-part l = l.found ≡ least (flat_map (of_element l.m l.line) (take l.part-index l.parts))
