use Rattle.std.proofs.Common.{◌≡◌, take}
use Rattle.item_names.specs.Circles.{found_parts}
use Rattle.item_names.proofs.parts.all_parts.Given as goal

abbrev pub invariant-loop-def : goal.invariant-loop-def
invariant-loop-def l = l.all ≡ found_parts l.names (take l.def-index l.types)
