use Rattle.std.proofs.Common.{◌≡◌, take}
use Rattle.std.specs.List.{flat_map}
use Rattle.ir_core.specs.NameRefusals.{least}
use Rattle.shapes.specs.Insts.{insts_seen}
use Rattle.call_graph.specs.Nested.{nested_fork}
use Rattle.call_graph.proofs.nested.nested_forks.Given as goal

abbrev pub invariant-loop-inst : goal.invariant-loop-inst
invariant-loop-inst l = l.found ≡ least (flat_map nested_fork (insts_seen (take l.inst-index l.insts)))
