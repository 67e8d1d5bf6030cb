use Rattle.std.proofs.Common.{◌≡◌, take, map}
use Rattle.ir_tables.specs.Names.{names_seen}
use Rattle.ir_tables.specs.Names.{type_name}
use Rattle.item_names.proofs.parts.names_of.Given as goal

abbrev pub invariant-loop-def : goal.invariant-loop-def
invariant-loop-def l = names_seen l.names ≡ map type_name (take l.def-index l.types)
