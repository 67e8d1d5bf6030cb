-- The names in a struct are those in its fields.
use Rattle.std.proofs.Common.{◌≡◌, List, [], ◌∷◌, ◌++◌, map, refl, sym, ap, ◌∙◌}
use Rattle.std.proofs.lemmas.Grind.{flat_map-append}
use Rattle.std.specs.List.{flat_map}
use Rattle.ir_core.specs.declared.types.Ty.{Ty}
use Rattle.ir_core.specs.declared.types.Ty.TheVariants.{Struct}
use Rattle.ir_core.specs.Given.{names_in}
use Rattle.ir_core.specs.Places.{Name}
use Rattle.ir_names.proofs.KeptLaws.{struct_names}

in_each : {B : Type 0} (f : Name → List B) (fields : List Ty) → flat_map f (flat_map (λ names. names) (map names_in fields)) ≡ flat_map (λ ty. flat_map f (names_in ty)) fields
in_each f [] = refl
in_each f (ty ∷ fields) =
    flat_map-append f (names_in ty) (flat_map (λ names. names) (map names_in fields))
    ∙ ap (λ l. flat_map f (names_in ty) ++ l) (in_each f fields)

pub of_fields : {B : Type 0} (f : Name → List B) (ty : Ty) (fields : List Ty) → ty ≡ Struct fields → flat_map (λ t. flat_map f (names_in t)) fields ≡ flat_map f (names_in ty)
of_fields f ty fields is = sym (in_each f fields) ∙ ap (flat_map f) (sym (struct_names fields)) ∙ ap (λ t. flat_map f (names_in t)) (sym is)
