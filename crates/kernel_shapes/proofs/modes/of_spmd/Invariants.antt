use Rattle.std.proofs.Common.{◌≡◌, take}
use Rattle.std.specs.List.{flat_map}
use Rattle.ir_core.specs.NameRefusals.{least}
use Rattle.shapes.specs.Insts.{insts_seen}
use Rattle.shapes.specs.KernelShape.{spmd_call}
use Rattle.kernel_shapes.proofs.modes.of_spmd.Given as goal

abbrev pub invariant-loop-inst : goal.invariant-loop-inst
invariant-loop-inst l = l.found ≡ least (flat_map spmd_call (insts_seen (take l.inst-index l.insts)))
