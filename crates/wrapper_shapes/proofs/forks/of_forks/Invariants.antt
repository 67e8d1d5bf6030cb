use Rattle.std.proofs.Common.{◌≡◌, take}
use Rattle.std.specs.List.{flat_map}
use Rattle.ir_core.specs.NameRefusals.{least}
use Rattle.shapes.specs.Insts.{insts_seen}
use Rattle.shapes.specs.Wrappers as spec
use Rattle.wrapper_shapes.proofs.forks.of_forks.Given as goal

abbrev pub invariant-loop-inst : goal.invariant-loop-inst
invariant-loop-inst l = l.found ≡ least (flat_map (spec.of_fork l.m) (insts_seen (take l.inst-index l.insts)))
