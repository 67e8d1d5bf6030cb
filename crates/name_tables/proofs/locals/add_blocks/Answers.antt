use Rattle.std.proofs.Common.{◌++◌, ap, sym, ◌∙◌, append_assoc, take}
use Rattle.ir_core.specs.Given.{block_names}
use Rattle.name_tables.specs.Kept.{all_seen, all_kept, one_block}
use Rattle.name_tables.proofs.Names.{one_block_more}
use Rattle.name_tables.proofs.locals.add_blocks.Goals as goal

pub loop-at-preserved : goal.loop-at-preserved
loop-at-preserved c =
    let at = c.loop-at.at in
    let more = one_block_more c.args.blocks.now at c.index-blocks-at.result c.loop-at-test.true in
    c.in_ok-add_block.ensures
    ∙ ap (λ ns. ns ++ all_kept (one_block at c.index-blocks-at.result)) c.loop-at.invariant
    ∙ append_assoc (all_seen c.args.names.now) (all_kept (block_names 0 (take at c.args.blocks.now))) (all_kept (one_block at c.index-blocks-at.result))
    ∙ ap (λ b. all_seen c.args.names.now ++ (all_kept (block_names 0 (take at c.args.blocks.now)) ++ all_kept (one_block at b))) c.index-blocks-at.is
    ∙ ap (λ ns. all_seen c.args.names.now ++ ns) (sym more)
