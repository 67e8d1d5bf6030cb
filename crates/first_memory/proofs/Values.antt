-- What an initializer gives, by its kind.
use Rattle.std.proofs.Common.{◌≡◌, List, [], ◌∷◌, ◌++◌, map, refl, ap, sym, ◌∙◌}
use Rattle.std.specs.List.{flat_map, fold}
use Rattle.ir_core.specs.declared.types.Ty.{Ty}
use Rattle.ir_core.specs.declared.module.Module.{Module}
use Rattle.ir_core.specs.declared.module.Init.{Init, fold-roll-Init}
use Rattle.ir_core.specs.declared.module.Init.TheOpen.{Init-F}
use Rattle.ir_core.specs.declared.module.Init.TheVariants.{Square, Braces, rolls-Square, rolls-Braces}
use Rattle.ir_core.specs.declared.module.Element.{Element, fold-Element, fold_out-Element}
use Rattle.mem_model.specs.declared.memory.Byte.{Byte}
use Rattle.mem_model.specs.Globals.{Filled, filled_bytes, with_field, init_layer, element_layer}
use Rattle.first_memory.specs.Contents.{value_bytes, element_bytes, with_element}

module _ (m : Module) where
  abbrev filled : Element → Filled
  filled e = record { ty = e.ty; bytes = element_bytes m e }

  each_filled : (e : Element) → fold-Element (Ty → List Byte) Filled (init_layer m) (element_layer m) e ≡ filled e
  each_filled e = fold_out-Element (Ty → List Byte) Filled (init_layer m) (element_layer m) e

  all_filled : (es : List Element) → flat_map filled_bytes (map filled es) ≡ flat_map (element_bytes m) es
  all_filled [] = refl
  all_filled (e ∷ es) = ap (λ bs. element_bytes m e ++ bs) (all_filled es)

  fields_filled : (before : List Byte) (es : List Element) → fold (with_field m.types) before (map filled es) ≡ fold (with_element m) before es
  fields_filled before [] = refl
  fields_filled before (e ∷ es) = fields_filled (with_element m before e) es

  pub square_value : (ty : Ty) (init : Init) (es : List Element) → init ≡ Square es → value_bytes m ty init ≡ flat_map (element_bytes m) es
  square_value ty init es is =
      ap (value_bytes m ty) (is ∙ sym (rolls-Square es))
      ∙ ap (λ (f : Ty → List Byte). f ty) (fold-roll-Init (Ty → List Byte) Filled (init_layer m) (element_layer m) (Init-F.Square es))
      ∙ ap (λ (f : Element → Filled). flat_map filled_bytes (map f es)) (λ i e. each_filled e i)
      ∙ all_filled es

  pub braces_value : (ty : Ty) (init : Init) (es : List Element) → init ≡ Braces es → value_bytes m ty init ≡ fold (with_element m) [] es
  braces_value ty init es is =
      ap (value_bytes m ty) (is ∙ sym (rolls-Braces es))
      ∙ ap (λ (f : Ty → List Byte). f ty) (fold-roll-Init (Ty → List Byte) Filled (init_layer m) (element_layer m) (Init-F.Braces es))
      ∙ ap (λ (f : Element → Filled). fold (with_field m.types) [] (map f es)) (λ i e. each_filled e i)
      ∙ fields_filled [] es
