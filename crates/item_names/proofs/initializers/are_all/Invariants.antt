use Rattle.std.proofs.Common.{◌≡◌, drop, map}
use Rattle.std.specs.List.{list_all}
use Rattle.ir_core.specs.Given.{same_type}
use Rattle.item_names.specs.Parts.{part_type}
use Rattle.item_names.proofs.initializers.are_all.Given as goal

-- the answer for the rest is the answer for all
abbrev pub invariant-loop-part : goal.invariant-loop-part
invariant-loop-part l = list_all (same_type l.item) (map part_type (drop l.part-index l.parts)) ≡ list_all (same_type l.item) (map part_type l.parts)
