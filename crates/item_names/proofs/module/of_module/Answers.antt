use Rattle.std.proofs.Common.{List, ap, sym, ◌∙◌}
use Rattle.std.specs.List.{flat_map}
use Rattle.ir_core.specs.declared.module.Module.{Module}
use Rattle.ir_core.specs.declared.module.Function.{Function}
use Rattle.ir_core.specs.NameRefusals.{least}
use Rattle.name_tables.specs.Least.{or_first}
use Rattle.item_names.specs.Items.{item_refusals, of_inside}
use Rattle.item_names.proofs.ItemLaws.{all_told}
use Rattle.item_names.proofs.module.of_module.Goals as goal

pub returns : goal.returns
returns c =
    let m = c.args.tables.now in
    let functions = ap (λ (fs : List Function). least (flat_map (of_inside m) fs)) (c.as_slice.ensures ∙ ap (λ (n : Module). n.functions) c.module.ensures) in
    c.earlier.ensures
    ∙ ap (λ o. or_first o c.in_ok-bodies.bodies) c.in_ok-items.ensures
    ∙ ap (or_first (least (item_refusals m))) (c.in_ok-bodies.ensures ∙ functions)
    ∙ sym (all_told m)
