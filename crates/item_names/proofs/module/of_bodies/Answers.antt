use Rattle.std.proofs.Common.{ap, sym, ◌∙◌}
use Rattle.ir_core.specs.NameRefusals.{least}
use Rattle.name_tables.specs.Least.{or_first}
use Rattle.name_tables.proofs.RefusalLaws.{first_more}
use Rattle.item_names.specs.Items.{of_inside}
use Rattle.item_names.proofs.module.of_bodies.Goals as goal

pub loop-f-preserved : goal.loop-f-preserved
loop-f-preserved c =
    let m = c.args.tables.now in
    let f = c.f-item.result in
    c.earlier-found.ensures
    ∙ ap (or_first c.loop-f.found) c.in_ok-of_body.ensures
    ∙ ap (λ o. or_first o (least (of_inside m f))) c.loop-f.invariant
    ∙ sym (first_more (of_inside m) c.args.functions.now c.loop-f.f-index f f c.loop-f-test.true c.f-item.is)
