use Rattle.std.proofs.Common.{sym}
use Rattle.ir_tables.proofs.Naming.{all_locals_more}
use Rattle.ir_tables.proofs.names.all_locals_of.Goals as goal

pub loop-function-preserved : goal.loop-function-preserved
loop-function-preserved c =
    all_locals_more c.args.functions.now c.loop-function.function-index _ c.function-item.result c.loop-function.all c.push.new.self c.in_ok-locals_of.field-0 c.loop-function-test.true (sym c.function-item.is) c.loop-function.invariant c.in_ok-locals_of.ensures c.in_ok-push.ensures.ok
