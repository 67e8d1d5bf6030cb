use Rattle.std.proofs.Common.{◌≡◌, ◌++◌, take}
use Rattle.std.specs.List.{flat_map}
use Rattle.ir_tables.specs.Names.{names_seen}
use Rattle.shapes.specs.Uses.{edge_names}
use Rattle.name_uses.proofs.names.add_edges.Given as goal

abbrev pub invariant-loop-edge : goal.invariant-loop-edge
invariant-loop-edge l = names_seen l.names ≡ names_seen l.initial.names ++ flat_map edge_names (take l.edge-index l.edges)
