use Rattle.std.proofs.Common.{◌≡◌, drop}
use Rattle.ir_core.specs.Places.{edge_from}
use Rattle.interp_local.proofs.phis.operand_from.Given as goal

-- no edge before this one is from the block
abbrev pub invariant-loop-edge : goal.invariant-loop-edge
invariant-loop-edge l = edge_from (drop l.edge-index l.edges) l.from ≡ edge_from l.edges l.from
