use Rattle.std.proofs.Common.{None, option_map, ap, sym, ◌∙◌}
use Rattle.ir_core.specs.NameRefusals.{least}
use Rattle.name_tables.specs.Least.{or_first}
use Rattle.name_tables.proofs.RefusalLaws.{first_more}
use Rattle.shapes.specs.KernelShape.{of_ends, of_block, is_exit_name}
use Rattle.kernel_shapes.specs.Seen.{ways_seen}
use Rattle.kernel_shapes.proofs.exit.of_blocks.Goals as goal

pub loop-block-preserved : goal.loop-block-preserved
loop-block-preserved c =
    let b = c.block-item.result in
    let w = option_map ways_seen c.args.ways in
    c.earlier-found.ensures
    ∙ ap (or_first c.loop-block.found) (c.of_ends-own.ensures ∙ ap (λ free. least (of_ends free None c.as_slice.result.now)) c.is_exit_name-free.ensures ∙ ap (λ is. least (of_ends (is_exit_name w b.name) None is)) c.as_slice.ensures)
    ∙ ap (λ o. or_first o (least (of_block w b))) c.loop-block.invariant
    ∙ sym (first_more (of_block w) c.args.blocks.now c.loop-block.block-index b b c.loop-block-test.true c.block-item.is)
