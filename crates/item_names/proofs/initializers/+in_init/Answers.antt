use Rattle.std.proofs.Common.{List, map, ap, ◌∙◌, sym}
use Rattle.std.specs.List.{flat_map}
use Rattle.ir_core.specs.declared.types.Ty.{Ty}
use Rattle.ir_core.specs.declared.types.Ty.TheOpen.{Ty-F}
use Rattle.ir_core.specs.declared.module.Element.{Element}
use Rattle.ir_core.specs.Given.{shape_of}
use Rattle.ir_core.specs.Typing.{in_type, expects}
use Rattle.ir_core.specs.NameRefusals.{in_init, are_items_of, are_fields_of}
use Rattle.name_tables.specs.Least.{least_of, or_lesser}
use Rattle.name_tables.proofs.ConstructLaws.{least_append, least_more}
use Rattle.item_names.specs.Parts.{part_type, in_element}
use Rattle.item_names.proofs.InitLaws.{in_square, in_braces}
use Rattle.item_names.proofs.initializers.+in_init.Goals as goal

pub in_init-returns-in-Square : goal.in_init-returns-in-Square
in_init-returns-in-Square t c =
    let m = c.args.tables.now in
    let parts = c.in-Square.parts in
    let shape = ap (λ (s : Ty-F Ty). are_items_of (map part_type c.as_slice-in-Square-2.result.now) s) c.shape-in-Square.ensures ∙ ap (λ (es : List Element). are_items_of (map part_type es) (shape_of m.types c.args.ty.now)) c.as_slice-in-Square-2.ensures in
    let items = c.expects-in-Square.ensures ∙ ap (λ b. least_of (expects b)) (c.are_items_of.ensures ∙ shape) in
    let inner = c.in_parts.ensures ∙ ap (λ (es : List Element). least_of (flat_map (in_element m) es)) c.as_slice-in-Square.ensures in
    c.lesser.ensures
    ∙ ap (λ o. or_lesser o c.expects-in-Square.result) inner
    ∙ ap (or_lesser (least_of (flat_map (in_element m) parts))) items
    ∙ sym (least_append (flat_map (in_element m) parts) (expects (are_items_of (map part_type parts) (shape_of m.types c.args.ty.now))))
    ∙ ap least_of (sym (in_square m c.args.ty.now parts))
    ∙ ap (λ i. least_of (in_init m c.args.ty.now i)) (sym c.in-Square.is)

pub in_init-returns-in-Braces : goal.in_init-returns-in-Braces
in_init-returns-in-Braces t c =
    let m = c.args.tables.now in
    let parts = c.in-Braces.parts in
    let shape = ap (λ (s : Ty-F Ty). are_fields_of (map part_type c.as_slice-in-Braces-2.result.now) s) c.shape-in-Braces.ensures ∙ ap (λ (es : List Element). are_fields_of (map part_type es) (shape_of m.types c.args.ty.now)) c.as_slice-in-Braces-2.ensures in
    let items = c.expects-in-Braces.ensures ∙ ap (λ b. least_of (expects b)) (c.are_fields_of.ensures ∙ shape) in
    let inner = c.in_parts-in-Braces.ensures ∙ ap (λ (es : List Element). least_of (flat_map (in_element m) es)) c.as_slice-in-Braces.ensures in
    c.lesser-in-Braces.ensures
    ∙ ap (λ o. or_lesser o c.expects-in-Braces.result) inner
    ∙ ap (or_lesser (least_of (flat_map (in_element m) parts))) items
    ∙ sym (least_append (flat_map (in_element m) parts) (expects (are_fields_of (map part_type parts) (shape_of m.types c.args.ty.now))))
    ∙ ap least_of (sym (in_braces m c.args.ty.now parts))
    ∙ ap (λ i. least_of (in_init m c.args.ty.now i)) (sym c.in-Braces.is)

pub in_parts-loop-part-preserved : goal.in_parts-loop-part-preserved
in_parts-loop-part-preserved t c =
    let m = c.args.tables.now in
    let e = c.part-item.result in
    let more = least_more (in_element m) c.args.parts.now c.loop-part.part-index e e c.loop-part-test.true c.part-item.is in
    let one = least_append (in_type m e.ty) (in_init m e.ty e.init) in
    cc
