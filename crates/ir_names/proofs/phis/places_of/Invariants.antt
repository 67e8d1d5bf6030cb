use Rattle.std.proofs.Common.{◌≡◌, take, map}
use Rattle.ir_tables.specs.Names.{names_seen}
use Rattle.ir_names.specs.Phis.{edge_block}
use Rattle.ir_names.proofs.phis.places_of.Given as goal

abbrev pub invariant-loop-edge : goal.invariant-loop-edge
invariant-loop-edge l = names_seen l.blocks ≡ map edge_block (take l.edge-index l.edges)
