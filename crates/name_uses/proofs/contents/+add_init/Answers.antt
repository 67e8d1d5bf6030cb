use Rattle.std.proofs.Common.{◌≡◌, ◌++◌, OnOk, sym, ap, subst, ◌∙◌}
use Rattle.std.specs.List.{flat_map}
use Rattle.ir_tables.specs.Names.{names_seen}
use Rattle.shapes.specs.Uses.{init_names}
use Rattle.name_uses.specs.Contents.{element_names}
use Rattle.name_uses.proofs.ContentLaws.{square_names, braces_names}
use Rattle.name_uses.proofs.contents.+add_init.Goals as goal

pub add_init-returns-in-Square : goal.add_init-returns-in-Square
add_init-returns-in-Square k c =
    let parts = ap (flat_map element_names) c.as_slice-in-Square.ensures ∙ sym (square_names c.in-Square.parts) ∙ ap init_names (sym c.in-Square.is) in
    subst (λ more. OnOk c.add_parts.result (names_seen c.add_parts.new.names ≡ names_seen c.args.names.now ++ more)) parts c.add_parts.ensures

pub add_init-returns-in-Braces : goal.add_init-returns-in-Braces
add_init-returns-in-Braces k c =
    let parts = ap (flat_map element_names) c.as_slice-in-Braces.ensures ∙ sym (braces_names c.in-Braces.parts) ∙ ap init_names (sym c.in-Braces.is) in
    subst (λ more. OnOk c.add_parts-in-Braces.result (names_seen c.add_parts-in-Braces.new.names ≡ names_seen c.args.names.now ++ more)) parts c.add_parts-in-Braces.ensures
