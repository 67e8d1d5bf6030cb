use Rattle.std.proofs.Common.{◌≡◌, drop}
use Rattle.std.specs.List.{list_all}
use Rattle.ir_names.specs.Phis.{agrees_with_first}
use Rattle.ir_names.proofs.phis.agree.Given as goal

-- the answer for the rest is the answer for all
abbrev pub invariant-loop-edge : goal.invariant-loop-edge
invariant-loop-edge l = list_all (agrees_with_first l.edges) (drop l.edge-index l.edges) ≡ list_all (agrees_with_first l.edges) l.edges
