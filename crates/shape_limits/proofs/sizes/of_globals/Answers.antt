use Rattle.shapes.specs.Limits.{of_global}
use Rattle.name_tables.proofs.RefusalLaws.{first_more}
use Rattle.shape_limits.proofs.sizes.of_globals.Goals as goal

pub loop-global-preserved : goal.loop-global-preserved
loop-global-preserved c =
    let g = c.global-item.result in
    let more = first_more (of_global c.args.m.now) c.args.globals.now c.loop-global.global-index g g c.loop-global-test.true c.global-item.is in
    cc
