use Rattle.std.proofs.Common.{◌≡◌, ◌<◌, length, refl, arith, Bool, List, [], ◌∷◌, ap, ◌∙◌, sym, if◌then◌else◌}
use Rattle.ir_core.specs.declared.module.Block.{Block}
use Rattle.ir_core.specs.declared.refusal.Construct.{Construct}
use Rattle.ir_core.specs.declared.refusal.Construct.TheVariants.{Signature}
use Rattle.std.specs.List.{list_any}
use Rattle.ir_core.specs.EntryPoints.{entry_points}
use Rattle.ir_core.specs.Typing.{if_output}
use Rattle.ir_core.specs.NameRefusals.{in_declaration, is_declared_as}
use Rattle.name_tables.specs.Least.{least_of, or_lesser}
use Rattle.name_tables.proofs.ConstructLaws.{least_append}
use Rattle.item_names.proofs.Declared.{declared_as}
use Rattle.item_names.proofs.headings.in_declaration.Goals as goal

empty : (bs : List Block) → length bs < 1 → bs ≡ []
empty [] h = refl
empty (b ∷ bs) h = let no : ⊥ = omega (arith, h) in absurd no

abbrev mistyped : Bool → List Construct
mistyped typed = if typed then [] else Signature ∷ []

pub returns-in-empty : goal.returns-in-empty
returns-in-empty c =
    let f = c.args.f.now in
    let declared = mistyped (list_any (is_declared_as f) entry_points) in
    let typed = c.if_mistyped.ensures ∙ ap (λ b. least_of (mistyped b)) (c.is_typed.ensures ∙ sym (declared_as f c.args.entry_point c.requires)) in
    c.lesser.ensures
    ∙ ap (λ o. or_lesser o c.if_output.result) typed
    ∙ ap (or_lesser (least_of declared)) c.if_output.ensures
    ∙ sym (least_append declared (if_output f.name))
    ∙ ap (λ (bs : List Block). least_of (in_declaration f bs)) (sym (empty c.as_slice.result.now c.in-empty.len_below) ∙ c.as_slice.ensures)
