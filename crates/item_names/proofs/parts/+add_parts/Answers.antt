use Rattle.std.proofs.Common.{◌≡◌, ℕ, List, ◌++◌, ap, ◌∙◌, subst, OnOk}
use Rattle.std.specs.List.{flat_map}
use Rattle.ir_core.specs.declared.types.Ty.{Ty}
use Rattle.ir_core.specs.Given.{names_in}
use Rattle.ir_tables.specs.Names.{found_place}
use Rattle.item_names.specs.Circles.{listed, found_places}
use Rattle.item_names.proofs.Fields.{of_fields}
use Rattle.item_names.proofs.parts.+add_parts.Goals as goal

pub add_parts-returns-in-Struct : goal.add_parts-returns-in-Struct
add_parts-returns-in-Struct t c =
    let table = c.args.names.now in
    let same =
    ap (λ (tys : List Ty). flat_map (λ ty. found_places table (names_in ty)) tys) c.as_slice.ensures
    ∙ of_fields (λ x. listed (found_place table x)) c.args.ty.now c.in-Struct.fields c.in-Struct.is
    in
    subst (λ (places : List ℕ). OnOk c.add_parts_of.result (c.add_parts_of.new.parts ≡ c.args.parts.now ++ places)) same c.add_parts_of.ensures
