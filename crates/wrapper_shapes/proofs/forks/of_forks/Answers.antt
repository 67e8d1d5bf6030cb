use Rattle.shapes.specs.Wrappers.{of_fork}
use Rattle.shape_facts.proofs.InstLaws.{inst_more}
use Rattle.wrapper_shapes.proofs.forks.of_forks.Goals as goal

pub loop-inst-preserved : goal.loop-inst-preserved
loop-inst-preserved c =
    let i = c.inst-item.result in
    let more = inst_more (of_fork c.args.m.now) c.args.insts.now c.loop-inst.inst-index i i c.loop-inst-test.true c.inst-item.is in
    cc
