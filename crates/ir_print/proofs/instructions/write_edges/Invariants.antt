use Rattle.std.proofs.Common.{◌≡◌, ◌++◌, take, map, codes}
use Rattle.ir_core.specs.Text.{edge_text, all_led}
use Rattle.ir_print.proofs.instructions.write_edges.Given as goal

abbrev pub invariant-loop-edge : goal.invariant-loop-edge
invariant-loop-edge l = l.out ≡ l.initial.out ++ all_led (codes ", ") (map (edge_text l.ty) (take l.edge-index l.rest))
