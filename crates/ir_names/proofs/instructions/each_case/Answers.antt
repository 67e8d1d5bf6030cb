use Rattle.ir_core.specs.Typing.{case, scope_of}
use Rattle.name_tables.proofs.ConstructLaws.{least_more}
use Rattle.ir_names.proofs.instructions.each_case.Goals as goal

pub loop-item-preserved : goal.loop-item-preserved
loop-item-preserved c =
    let more = least_more (case (scope_of c.args.s.now.0 c.args.s.now.1) c.args.ty.now) c.args.cases.now c.loop-item.item-index c.item-item.result c.item-item.result c.loop-item-test.true c.item-item.is in
    cc
