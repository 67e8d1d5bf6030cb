use Rattle.std.proofs.Common.{sym, ap, ◌∙◌}
use Rattle.ir_core.specs.Typing.{scope_of}
use Rattle.ir_core.specs.NameRefusals.{of_block, least}
use Rattle.name_tables.specs.Least.{or_first}
use Rattle.name_tables.proofs.RefusalLaws.{first_more}
use Rattle.ir_names.proofs.blocks.of_each_block.Goals as goal

pub loop-block-preserved : goal.loop-block-preserved
loop-block-preserved c =
    c.earlier-found.ensures
    ∙ ap (or_first c.loop-block.found) c.in_ok-of_block.ensures
    ∙ ap (λ o. or_first o (least (of_block (scope_of c.args.body.now.0 c.args.body.now.1) c.block-item.result))) c.loop-block.invariant
    ∙ sym (first_more (of_block (scope_of c.args.body.now.0 c.args.body.now.1)) c.args.blocks.now c.loop-block.block-index c.block-item.result c.block-item.result c.loop-block-test.true c.block-item.is)
