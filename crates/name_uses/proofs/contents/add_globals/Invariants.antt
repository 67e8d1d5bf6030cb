use Rattle.std.proofs.Common.{◌≡◌, ◌++◌, take}
use Rattle.std.specs.List.{flat_map}
use Rattle.ir_tables.specs.Names.{names_seen}
use Rattle.name_uses.specs.Contents.{global_names}
use Rattle.name_uses.proofs.contents.add_globals.Given as goal

abbrev pub invariant-loop-global : goal.invariant-loop-global
invariant-loop-global l = names_seen l.names ≡ names_seen l.initial.names ++ flat_map global_names (take l.global-index l.globals)
