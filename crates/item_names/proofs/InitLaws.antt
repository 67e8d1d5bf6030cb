-- What is refused of an initializer, by its kind.
use Rattle.std.proofs.Common.{◌≡◌, List, [], ◌∷◌, ◌++◌, map, refl, sym, ap, ◌∙◌}
use Rattle.std.specs.List.{flat_map}
use Rattle.ir_core.specs.declared.types.Ty.{Ty}
use Rattle.ir_core.specs.declared.module.Module.{Module}
use Rattle.ir_core.specs.declared.module.Init.{fold-roll-Init}
use Rattle.ir_core.specs.declared.module.Init.TheOpen.{Init-F}
use Rattle.ir_core.specs.declared.module.Init.TheVariants.{Square, Braces, rolls-Square, rolls-Braces}
use Rattle.ir_core.specs.declared.module.Element.{Element, fold-Element, fold_out-Element}
use Rattle.ir_core.specs.declared.refusal.Construct.{Construct}
use Rattle.ir_core.specs.Given.{shape_of}
use Rattle.ir_core.specs.Typing.{expects}
use Rattle.ir_core.specs.NameRefusals.{Part, part_types, in_parts, init_layer, element_layer, in_init, are_items_of, are_fields_of}
use Rattle.item_names.specs.Parts.{part_type, in_element}

module _ (m : Module) where
  abbrev part : Element → Part
  part e = (e.ty, in_element m e)

  each_part : (e : Element) → fold-Element (Ty → List Construct) Part (init_layer m) (element_layer m) e ≡ part e
  each_part e = fold_out-Element (Ty → List Construct) Part (init_layer m) (element_layer m) e

  types_same : (parts : List Element) → part_types (map part parts) ≡ map part_type parts
  types_same [] = refl
  types_same (e ∷ parts) = ap (λ tys. e.ty ∷ tys) (types_same parts)

  parts_same : (parts : List Element) → in_parts (map part parts) ≡ flat_map (in_element m) parts
  parts_same [] = refl
  parts_same (e ∷ parts) = ap (λ cs. in_element m e ++ cs) (parts_same parts)

  pub in_square : (ty : Ty) (parts : List Element) → in_init m ty (Square parts) ≡ flat_map (in_element m) parts ++ expects (are_items_of (map part_type parts) (shape_of m.types ty))
  in_square ty parts =
      ap (in_init m ty) (sym (rolls-Square parts))
      ∙ ap (λ (f : Ty → List Construct). f ty) (fold-roll-Init (Ty → List Construct) Part (init_layer m) (element_layer m) (Init-F.Square parts))
      ∙ ap (λ (f : Element → Part). in_parts (map f parts) ++ expects (are_items_of (part_types (map f parts)) (shape_of m.types ty))) (λ i e. each_part e i)
      ∙ ap (λ cs. cs ++ expects (are_items_of (part_types (map part parts)) (shape_of m.types ty))) (parts_same parts)
      ∙ ap (λ tys. flat_map (in_element m) parts ++ expects (are_items_of tys (shape_of m.types ty))) (types_same parts)

  pub in_braces : (ty : Ty) (parts : List Element) → in_init m ty (Braces parts) ≡ flat_map (in_element m) parts ++ expects (are_fields_of (map part_type parts) (shape_of m.types ty))
  in_braces ty parts =
      ap (in_init m ty) (sym (rolls-Braces parts))
      ∙ ap (λ (f : Ty → List Construct). f ty) (fold-roll-Init (Ty → List Construct) Part (init_layer m) (element_layer m) (Init-F.Braces parts))
      ∙ ap (λ (f : Element → Part). in_parts (map f parts) ++ expects (are_fields_of (part_types (map f parts)) (shape_of m.types ty))) (λ i e. each_part e i)
      ∙ ap (λ cs. cs ++ expects (are_fields_of (part_types (map part parts)) (shape_of m.types ty))) (parts_same parts)
      ∙ ap (λ tys. flat_map (in_element m) parts ++ expects (are_fields_of tys (shape_of m.types ty))) (types_same parts)
