use Rattle.ir_core.specs.Typing.{operand_in, scope_of}
use Rattle.name_tables.proofs.ConstructLaws.{least_more}
use Rattle.ir_names.proofs.calls.each_operand.Goals as goal

pub loop-v-preserved : goal.loop-v-preserved
loop-v-preserved c =
    let more = least_more (operand_in c.args.in_fork (scope_of c.args.s.now.0 c.args.s.now.1)) c.args.operands.now c.loop-v.v-index c.v-item.result c.v-item.result c.loop-v-test.true c.v-item.is in
    cc
