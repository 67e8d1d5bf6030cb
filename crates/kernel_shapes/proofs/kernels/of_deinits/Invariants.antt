use Rattle.std.proofs.Common.{◌≡◌, take}
use Rattle.std.specs.List.{flat_map}
use Rattle.ir_core.specs.NameRefusals.{least}
use Rattle.shapes.specs.Insts.{insts_seen}
use Rattle.shapes.specs.KernelShape.{deinit_outside}
use Rattle.kernel_shapes.proofs.kernels.of_deinits.Given as goal

abbrev pub invariant-loop-inst : goal.invariant-loop-inst
invariant-loop-inst l = l.found ≡ least (flat_map deinit_outside (insts_seen (take l.inst-index l.insts)))
