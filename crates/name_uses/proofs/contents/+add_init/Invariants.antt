use Rattle.std.proofs.Common.{◌≡◌, ◌++◌, take}
use Rattle.std.specs.List.{flat_map}
use Rattle.ir_tables.specs.Names.{names_seen}
use Rattle.name_uses.specs.Contents.{element_names}
use Rattle.name_uses.proofs.contents.+add_init.Given as goal

abbrev pub invariant-add_parts-loop-part : goal.invariant-add_parts-loop-part
invariant-add_parts-loop-part l = names_seen l.names ≡ names_seen l.initial.names ++ flat_map element_names (take l.part-index l.parts)
