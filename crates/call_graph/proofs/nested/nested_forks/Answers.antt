use Rattle.shape_facts.proofs.InstLaws.{inst_more}
use Rattle.call_graph.specs.Nested.{nested_fork}
use Rattle.call_graph.proofs.nested.nested_forks.Goals as goal

pub loop-inst-preserved : goal.loop-inst-preserved
loop-inst-preserved c =
    let i = c.inst-item.result in
    let more = inst_more nested_fork c.args.insts.now c.loop-inst.inst-index i i c.loop-inst-test.true c.inst-item.is in
    cc
