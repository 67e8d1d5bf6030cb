use Rattle.std.proofs.Common.{◌≡◌, ◌++◌, take, map}
use Rattle.ir_tables.specs.Names.{names_seen}
use Rattle.ir_tables.proofs.names.add_names.Given as goal

abbrev pub invariant-loop-item : goal.invariant-loop-item
invariant-loop-item g l = names_seen l.names ≡ names_seen l.initial.names ++ map g.T.HasName.name_of (take l.item-index l.items)
