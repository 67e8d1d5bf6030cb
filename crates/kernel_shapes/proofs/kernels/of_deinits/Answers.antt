use Rattle.shape_facts.proofs.InstLaws.{inst_more}
use Rattle.shapes.specs.KernelShape.{deinit_outside}
use Rattle.kernel_shapes.proofs.kernels.of_deinits.Goals as goal

pub loop-inst-preserved : goal.loop-inst-preserved
loop-inst-preserved c =
    let i = c.inst-item.result in
    let more = inst_more deinit_outside c.args.insts.now c.loop-inst.inst-index i i c.loop-inst-test.true c.inst-item.is in
    cc
