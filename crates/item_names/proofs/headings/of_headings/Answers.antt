use Rattle.std.proofs.Common.{ap, sym, ◌∙◌}
use Rattle.ir_core.specs.NameRefusals.{in_heading, least}
use Rattle.name_tables.specs.Least.{or_first, at_line}
use Rattle.name_tables.proofs.RefusalLaws.{first_at, first_more}
use Rattle.item_names.specs.Items.{of_heading}
use Rattle.item_names.proofs.headings.of_headings.Goals as goal

pub loop-f-preserved : goal.loop-f-preserved
loop-f-preserved c =
    let m = c.args.tables.now in
    let f = c.f-item.result in
    c.earlier-found.ensures
    ∙ ap (or_first c.loop-f.found) (c.refused_at.ensures ∙ ap (at_line f.line) c.in_heading.ensures ∙ sym (first_at f.line (in_heading m f)))
    ∙ ap (λ o. or_first o (least (of_heading m f))) c.loop-f.invariant
    ∙ sym (first_more (of_heading m) c.args.functions.now c.loop-f.f-index f f c.loop-f-test.true c.f-item.is)
