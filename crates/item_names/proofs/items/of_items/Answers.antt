use Rattle.std.proofs.Common.{List, [], ◌++◌, map, ap, sym, ◌∙◌}
use Rattle.std.specs.List.{flat_map}
use Rattle.ir_core.specs.declared.module.Module.{Module}
use Rattle.ir_core.specs.declared.module.Global.{Global}
use Rattle.ir_core.specs.declared.module.Function.{Function}
use Rattle.ir_core.specs.NameRefusals.{least, repeated, of_type, repeated_by_line, global_names, of_global}
use Rattle.name_tables.specs.Least.{or_first}
use Rattle.item_names.specs.Repeated.{type_entry}
use Rattle.item_names.specs.Items.{of_heading}
use Rattle.item_names.proofs.ItemLaws.{parts_told}
use Rattle.item_names.proofs.items.of_items.Goals as goal

pub returns : goal.returns
returns c =
    let m = c.args.tables.now in
    let symbols = c.in_ok-symbols.ensures ∙ ap (λ (n : Module). least (repeated_by_line [] (global_names n))) c.module-m.ensures in
    let globals = c.of_globals-globals.ensures ∙ ap (λ (gs : List Global). least (flat_map (of_global m) gs)) (c.as_slice.ensures ∙ ap (λ (n : Module). n.globals) c.module-m.ensures) in
    let headings = c.of_headings-headings.ensures ∙ ap (λ (fs : List Function). least (flat_map (of_heading m) fs)) (c.as_slice-2.ensures ∙ ap (λ (n : Module). n.functions) c.module-m.ensures) in
    c.earlier-3.ensures
    ∙ ap (λ o. or_first o c.of_headings-headings.result) (c.earlier-2.ensures ∙ ap (λ o. or_first o c.of_globals-globals.result) (c.earlier.ensures ∙ ap (λ o. or_first o c.in_ok-symbols.symbols) c.in_ok-types.ensures ∙ ap (or_first (least (repeated [] (map type_entry m.types) ++ flat_map (of_type m) m.types))) symbols) ∙ ap (or_first _) globals)
    ∙ ap (or_first _) headings
    ∙ sym (parts_told (repeated [] (map type_entry m.types) ++ flat_map (of_type m) m.types) (repeated_by_line [] (global_names m)) (flat_map (of_global m) m.globals) (flat_map (of_heading m) m.functions))
