use Rattle.std.proofs.Common.{ap, ◌∙◌, arith, length-append}
use Rattle.ir_tables.specs.Table.{count}
use Rattle.ir_tables.proofs.Growth.{count-push}
use Rattle.ir_tables.proofs.table.nothing_known.Goals as goal

pub loop-preserved : goal.loop-preserved
loop-preserved c = record {
  size = grind (arith, length-append, c.in_ok-push.ensures.ok);
  none = ap count c.in_ok-push.ensures.ok ∙ count-push c.loop.known ∙ c.loop.invariant.none;
}
