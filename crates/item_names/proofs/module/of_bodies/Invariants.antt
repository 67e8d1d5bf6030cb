use Rattle.std.proofs.Common.{◌≡◌, take}
use Rattle.std.specs.List.{flat_map}
use Rattle.ir_core.specs.NameRefusals.{least}
use Rattle.item_names.specs.Items.{of_inside}
use Rattle.item_names.proofs.module.of_bodies.Given as goal

abbrev pub invariant-loop-f : goal.invariant-loop-f
invariant-loop-f l = l.found ≡ least (flat_map (of_inside l.tables) (take l.f-index l.functions))
