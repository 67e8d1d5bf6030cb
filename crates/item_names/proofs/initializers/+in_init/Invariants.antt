use Rattle.std.proofs.Common.{◌≡◌, take}
use Rattle.std.specs.List.{flat_map}
use Rattle.name_tables.specs.Least.{least_of}
use Rattle.item_names.specs.Parts.{in_element}
use Rattle.item_names.proofs.initializers.+in_init.Given as goal

abbrev pub invariant-in_parts-loop-part : goal.invariant-in_parts-loop-part
invariant-in_parts-loop-part l = l.found ≡ least_of (flat_map (in_element l.tables) (take l.part-index l.parts))
