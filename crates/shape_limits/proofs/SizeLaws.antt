-- The types in an initializer, part by part.
use Rattle.std.proofs.Common.{◌≡◌, ℕ, List, [], ◌∷◌, ◌++◌, map, refl, sym, ap, ◌∙◌}
use Rattle.std.specs.List.{flat_map}
use Rattle.std.proofs.lemmas.Grind.{flat_map-append}
use Rattle.ir_core.specs.declared.types.Ty.{Ty}
use Rattle.ir_core.specs.declared.module.Module.{Module}
use Rattle.ir_core.specs.declared.module.Init.{fold-roll-Init}
use Rattle.ir_core.specs.declared.module.Init.TheOpen.{Init-F}
use Rattle.ir_core.specs.declared.module.Init.TheVariants.{Square, Braces, rolls-Square, rolls-Braces}
use Rattle.ir_core.specs.declared.module.Element.{Element, fold-Element, fold_out-Element}
use Rattle.ir_core.specs.declared.refusal.Refusal.{Refusal}
use Rattle.shapes.specs.Limits.{of_size, init_types_layer, element_types_layer, init_types}
use Rattle.shape_limits.specs.Sizes.{of_sizes, element_types, of_element, of_init}

abbrev same : List Ty → List Ty
same tys = tys

each_part : (e : Element) → fold-Element (List Ty) (List Ty) init_types_layer element_types_layer e ≡ element_types e
each_part e = fold_out-Element (List Ty) (List Ty) init_types_layer element_types_layer e

joined : (parts : List Element) → flat_map same (map element_types parts) ≡ flat_map element_types parts
joined [] = refl
joined (e ∷ es) = ap (λ tys. element_types e ++ tys) (joined es)

square_types : (parts : List Element) → init_types (Square parts) ≡ flat_map element_types parts
square_types parts =
    ap init_types (sym (rolls-Square parts)) ∙ fold-roll-Init (List Ty) (List Ty) init_types_layer element_types_layer (Init-F.Square parts)
    ∙ ap (λ (f : Element → List Ty). flat_map same (map f parts)) (λ i e. each_part e i) ∙ joined parts

braces_types : (parts : List Element) → init_types (Braces parts) ≡ flat_map element_types parts
braces_types parts =
    ap init_types (sym (rolls-Braces parts)) ∙ fold-roll-Init (List Ty) (List Ty) init_types_layer element_types_layer (Init-F.Braces parts)
    ∙ ap (λ (f : Element → List Ty). flat_map same (map f parts)) (λ i e. each_part e i) ∙ joined parts

module _ (m : Module) (line : ℕ) where
  each_element : (parts : List Element) → of_sizes m line (flat_map element_types parts) ≡ flat_map (of_element m line) parts
  each_element [] = refl
  each_element (e ∷ es) = flat_map-append (of_size m line) (element_types e) (flat_map element_types es) ∙ ap (λ rs. of_element m line e ++ rs) (each_element es)

  pub in_square : (parts : List Element) → of_init m line (Square parts) ≡ flat_map (of_element m line) parts
  in_square parts = ap (of_sizes m line) (square_types parts) ∙ each_element parts

  pub in_braces : (parts : List Element) → of_init m line (Braces parts) ≡ flat_map (of_element m line) parts
  in_braces parts = ap (of_sizes m line) (braces_types parts) ∙ each_element parts
