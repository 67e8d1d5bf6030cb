use Rattle.shape_limits.specs.Sizes.{of_type}
use Rattle.name_tables.proofs.RefusalLaws.{first_more}
use Rattle.shape_limits.proofs.sizes.of_types.Goals as goal

pub loop-named-preserved : goal.loop-named-preserved
loop-named-preserved c =
    let d = c.named-item.result in
    let more = first_more (of_type c.args.m.now) c.args.types.now c.loop-named.named-index d d c.loop-named-test.true c.named-item.is in
    cc
