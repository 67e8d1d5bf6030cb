use Rattle.std.proofs.Common.{◌≡◌, Bool, true, false, nat_lt, ap, sym, ◌∙◌, if◌then◌else◌}
use Rattle.std.specs.List.{list_any}
use Rattle.ir_core.specs.Layout.{Size}
use Rattle.shapes.specs.Limits.{is_large, size_limit}
use Rattle.shape_limits.proofs.LimitLaws.{array_is, struct_is}
use Rattle.shape_limits.proofs.sizes.+is_large.Goals as goal

pub is_large-returns-else-is_large : goal.is_large-returns-else-is_large
is_large-returns-else-is_large k c =
    let types = c.args.m.now.types in
    let ty = c.args.ty.now in
    let small : is_large types c.in-Array.item ≡ false = ap (is_large types) (sym c.get.ensures) ∙ sym c.is_large.ensures ∙ c.if-is_large.false in
    c.is_too_long.ensures ∙ sym (array_is types ty c.in-Array.item c.in-Array.field-0 c.in-Array.is ∙ ap (λ (b : Bool). if b then true else nat_lt size_limit (Size types ty)) small)

pub is_large-returns-then-any_is_large : goal.is_large-returns-then-any_is_large
is_large-returns-then-any_is_large k c =
    let types = c.args.m.now.types in
    let ty = c.args.ty.now in
    let large : list_any (is_large types) c.in-Struct.fields ≡ true = ap (list_any (is_large types)) (sym c.as_slice.ensures) ∙ sym c.any_is_large.ensures ∙ c.if-any_is_large.true in
    c.if-any_is_large.true ∙ sym (struct_is types ty c.in-Struct.fields c.in-Struct.is ∙ ap (λ (b : Bool). if b then true else nat_lt size_limit (Size types ty)) large)

pub is_large-returns-else-any_is_large : goal.is_large-returns-else-any_is_large
is_large-returns-else-any_is_large k c =
    let types = c.args.m.now.types in
    let ty = c.args.ty.now in
    let small : list_any (is_large types) c.in-Struct.fields ≡ false = ap (list_any (is_large types)) (sym c.as_slice.ensures) ∙ sym c.any_is_large.ensures ∙ c.if-any_is_large.false in
    c.is_too_long-else-any_is_large.ensures ∙ sym (struct_is types ty c.in-Struct.fields c.in-Struct.is ∙ ap (λ (b : Bool). if b then true else nat_lt size_limit (Size types ty)) small)
