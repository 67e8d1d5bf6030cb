-- The names in an initializer, part by part.
use Rattle.std.proofs.Common.{◌≡◌, List, [], ◌∷◌, ◌++◌, map, refl, sym, ap, ◌∙◌}
use Rattle.std.specs.List.{flat_map}
use Rattle.ir_core.specs.declared.module.Init.{fold-roll-Init}
use Rattle.ir_core.specs.declared.module.Init.TheOpen.{Init-F}
use Rattle.ir_core.specs.declared.module.Init.TheVariants.{Square, Braces, rolls-Square, rolls-Braces}
use Rattle.ir_core.specs.declared.module.Element.{Element, fold-Element, fold_out-Element}
use Rattle.ir_core.specs.Places.{Name}
use Rattle.shapes.specs.Uses.{init_names_layer, element_names_layer, init_names}
use Rattle.name_uses.specs.Contents.{element_names}

abbrev same : List Name → List Name
same names = names

each_part : (e : Element) → fold-Element (List Name) (List Name) init_names_layer element_names_layer e ≡ element_names e
each_part e = fold_out-Element (List Name) (List Name) init_names_layer element_names_layer e

joined : (parts : List Element) → flat_map same (map element_names parts) ≡ flat_map element_names parts
joined [] = refl
joined (e ∷ es) = ap (λ names. element_names e ++ names) (joined es)

pub square_names : (parts : List Element) → init_names (Square parts) ≡ flat_map element_names parts
square_names parts =
    ap init_names (sym (rolls-Square parts)) ∙ fold-roll-Init (List Name) (List Name) init_names_layer element_names_layer (Init-F.Square parts)
    ∙ ap (λ (f : Element → List Name). flat_map same (map f parts)) (λ i e. each_part e i) ∙ joined parts

pub braces_names : (parts : List Element) → init_names (Braces parts) ≡ flat_map element_names parts
braces_names parts =
    ap init_names (sym (rolls-Braces parts)) ∙ fold-roll-Init (List Name) (List Name) init_names_layer element_names_layer (Init-F.Braces parts)
    ∙ ap (λ (f : Element → List Name). flat_map same (map f parts)) (λ i e. each_part e i) ∙ joined parts
