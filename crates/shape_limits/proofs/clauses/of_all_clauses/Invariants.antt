use Rattle.std.proofs.Common.{◌≡◌, take}
use Rattle.std.specs.List.{flat_map}
use Rattle.ir_core.specs.NameRefusals.{least}
use Rattle.shapes.specs.Clauses.{of_clauses}
use Rattle.shapes.specs.Insts.{insts_seen}
use Rattle.shape_limits.proofs.clauses.of_all_clauses.Given as goal

abbrev pub invariant-loop-inst : goal.invariant-loop-inst
invariant-loop-inst l = l.found ≡ least (flat_map of_clauses (insts_seen (take l.inst-index l.insts)))
