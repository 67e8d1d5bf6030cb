use Rattle.ir_core.specs.NameRefusals.{of_global}
use Rattle.name_tables.proofs.RefusalLaws.{first_more}
use Rattle.item_names.proofs.globals.of_globals.Goals as goal

pub loop-global-preserved : goal.loop-global-preserved
loop-global-preserved c =
    let g = c.global-item.result in
    let more = first_more (of_global c.args.tables.now) c.args.globals.now c.loop-global.global-index g g c.loop-global-test.true c.global-item.is in
    cc
