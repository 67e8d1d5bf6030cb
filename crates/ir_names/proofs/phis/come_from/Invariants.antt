use Rattle.std.proofs.Common.{◌≡◌, drop}
use Rattle.std.specs.List.{list_all}
use Rattle.ir_core.specs.declared.instructions.Edge.{Edge}
use Rattle.ir_core.specs.Wrappers.{is_in}
use Rattle.ir_core.specs.Typing.{predecessors}
use Rattle.ir_names.proofs.phis.come_from.Given as goal

-- the answer for the rest is the answer for all
abbrev pub invariant-loop-edge : goal.invariant-loop-edge
invariant-loop-edge l = list_all (λ (e : Edge). is_in (predecessors l.body.1 l.block) e.block) (drop l.edge-index l.edges) ≡ list_all (λ (e : Edge). is_in (predecessors l.body.1 l.block) e.block) l.edges
