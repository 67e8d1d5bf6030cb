use Rattle.std.proofs.Common.{◌≡◌, take}
use Rattle.std.specs.List.{flat_map}
use Rattle.ir_core.specs.NameRefusals.{of_global, least}
use Rattle.item_names.proofs.globals.of_globals.Given as goal

abbrev pub invariant-loop-global : goal.invariant-loop-global
invariant-loop-global l = l.found ≡ least (flat_map (of_global l.tables) (take l.global-index l.globals))
