use Rattle.shapes.specs.Limits.{of_inst}
use Rattle.shape_facts.proofs.InstLaws.{inst_more}
use Rattle.shape_limits.proofs.limits.of_all_insts.Goals as goal

pub loop-inst-preserved : goal.loop-inst-preserved
loop-inst-preserved c =
    let i = c.inst-item.result in
    let more = inst_more (of_inst c.args.m.now) c.args.insts.now c.loop-inst.inst-index i i c.loop-inst-test.true c.inst-item.is in
    cc
