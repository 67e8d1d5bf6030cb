use Rattle.std.proofs.Common.{◌≡◌, ◌++◌, ◌∙◌, [], OnOk, ap, sym, subst}
use Rattle.std.specs.List.{flat_map, fold}
use Rattle.first_memory.specs.Contents.{element_bytes, with_element}
use Rattle.first_memory.proofs.Values.{square_value, braces_value}
use Rattle.first_memory.proofs.contents.+add_value.Goals as goal

pub add_value-returns-in-Square : goal.add_value-returns-in-Square
add_value-returns-in-Square t c =
    let e = square_value c.args.m.now c.args.ty.now c.args.init.now c.in-Square.elements c.in-Square.is in
    subst (λ bytes. OnOk c.add_items.result (c.add_items.new.out.items ≡ c.args.out.now.items ++ bytes)) (sym (e ∙ ap (flat_map (element_bytes c.args.m.now)) (sym c.as_slice-in-Square.ensures))) c.add_items.ensures

pub add_value-returns-in-Braces : goal.add_value-returns-in-Braces
add_value-returns-in-Braces t c =
    let e = braces_value c.args.m.now c.args.ty.now c.args.init.now c.in-Braces.elements c.in-Braces.is in
    subst (λ bytes. OnOk c.add_fields.result (c.add_fields.new.out.items ≡ c.args.out.now.items ++ bytes)) (sym (e ∙ ap (fold (with_element c.args.m.now) []) (sym c.as_slice-in-Braces.ensures))) c.add_fields.ensures
