use Rattle.std.proofs.Common.{◌≡◌, ◌++◌, take}
use Rattle.std.specs.List.{flat_map}
use Rattle.ir_tables.specs.Names.{names_seen}
use Rattle.shapes.specs.Uses.{case_names}
use Rattle.name_uses.proofs.names.add_cases.Given as goal

abbrev pub invariant-loop-case : goal.invariant-loop-case
invariant-loop-case l = names_seen l.names ≡ names_seen l.initial.names ++ flat_map case_names (take l.case-index l.cases)
