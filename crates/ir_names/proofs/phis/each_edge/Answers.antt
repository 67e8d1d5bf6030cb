use Rattle.ir_core.specs.Typing.{edge, scope_of}
use Rattle.name_tables.proofs.ConstructLaws.{least_more}
use Rattle.ir_names.proofs.phis.each_edge.Goals as goal

pub loop-item-preserved : goal.loop-item-preserved
loop-item-preserved c =
    let more = least_more (edge (scope_of c.args.s.now.0 c.args.s.now.1) c.args.ty.now) c.args.edges.now c.loop-item.item-index c.item-item.result c.item-item.result c.loop-item-test.true c.item-item.is in
    cc
