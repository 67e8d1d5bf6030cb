use Rattle.std.proofs.Common.{List, ap, sym, ◌∙◌}
use Rattle.std.specs.List.{flat_map}
use Rattle.ir_core.specs.declared.module.Element.{Element}
use Rattle.ir_core.specs.NameRefusals.{least}
use Rattle.shapes.specs.Limits.{of_size}
use Rattle.name_tables.specs.Least.{or_first}
use Rattle.name_tables.proofs.RefusalLaws.{first_more}
use Rattle.shape_facts.proofs.InstLaws.{two_told}
use Rattle.shape_limits.specs.Sizes.{of_element, of_init}
use Rattle.shape_limits.proofs.SizeLaws.{in_square, in_braces}
use Rattle.shape_limits.proofs.sizes.+of_init.Goals as goal

pub of_init-returns-in-Square : goal.of_init-returns-in-Square
of_init-returns-in-Square k c =
    let m = c.args.m.now in
    let line = c.args.line in
    c.of_parts.ensures ∙ ap (λ (es : List Element). least (flat_map (of_element m line) es)) c.as_slice.ensures
    ∙ ap least (sym (in_square m line c.in-Square.parts)) ∙ ap (λ i. least (of_init m line i)) (sym c.in-Square.is)

pub of_init-returns-in-Braces : goal.of_init-returns-in-Braces
of_init-returns-in-Braces k c =
    let m = c.args.m.now in
    let line = c.args.line in
    c.of_parts-in-Braces.ensures ∙ ap (λ (es : List Element). least (flat_map (of_element m line) es)) c.as_slice-in-Braces.ensures
    ∙ ap least (sym (in_braces m line c.in-Braces.parts)) ∙ ap (λ i. least (of_init m line i)) (sym c.in-Braces.is)

pub of_parts-loop-part-preserved : goal.of_parts-loop-part-preserved
of_parts-loop-part-preserved k c =
    let m = c.args.m.now in
    let line = c.args.line in
    let e = c.part-item.result in
    let own = two_told (of_size m line e.ty) (of_init m line e.init) c.of_size-own.result c.of_init.result c.of_size-own.ensures c.of_init.ensures in
    c.earlier-found.ensures
    ∙ ap (or_first c.loop-part.found) (c.earlier.ensures ∙ own)
    ∙ ap (λ o. or_first o (least (of_element m line e))) c.loop-part.invariant
    ∙ sym (first_more (of_element m line) c.args.parts.now c.loop-part.part-index e e c.loop-part-test.true c.part-item.is)
