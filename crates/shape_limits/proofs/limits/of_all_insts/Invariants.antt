use Rattle.std.proofs.Common.{◌≡◌, take}
use Rattle.std.specs.List.{flat_map}
use Rattle.ir_core.specs.NameRefusals.{least}
use Rattle.shapes.specs.Insts.{insts_seen}
use Rattle.shapes.specs.Limits.{of_inst}
use Rattle.shape_limits.proofs.limits.of_all_insts.Given as goal

abbrev pub invariant-loop-inst : goal.invariant-loop-inst
invariant-loop-inst l = l.found ≡ least (flat_map (of_inst l.m) (insts_seen (take l.inst-index l.insts)))
