-- Lists of two lengths don't agree item by item.
use Rattle.std.proofs.Common.{◌≡◌, suc, List, [], ◌∷◌, length, map, Bool, true, false, ◌&&◌, refl, ap, ◌∙◌}
use Rattle.ir_core.specs.declared.types.Ty.{Ty}
use Rattle.ir_core.specs.declared.types.Scalar.{Scalar}
use Rattle.ir_core.specs.declared.module.Element.{Element}
use Rattle.ir_core.specs.declared.module.Param.{Param}
use Rattle.ir_core.specs.EntryPoints.{scalar_type}
use Rattle.ir_core.specs.FirstForm.{same_scalar}
use Rattle.ir_core.specs.Given.{same_type, all_same}
use Rattle.ir_core.specs.NameRefusals.{are_pairwise_same, are_declared}
use Rattle.item_names.specs.Parts.{part_type}

abbrev pairwise : {A B : Type 0} → (A → B → Bool) → List A → List B → Bool
pairwise test [] [] = true
pairwise test [] (y ∷ ys) = false
pairwise test (x ∷ xs) [] = false
pairwise test (x ∷ xs) (y ∷ ys) = test x y && pairwise test xs ys

false_end : (b : Bool) → (b && false) ≡ false
false_end true = refl
false_end false = refl

uneven : {A B : Type 0} (test : A → B → Bool) (xs : List A) (ys : List B) → (length xs ≡ length ys → ⊥) → pairwise test xs ys ≡ false
uneven test [] [] apart = absurd (apart refl)
uneven test [] (y ∷ ys) apart = refl
uneven test (x ∷ xs) [] apart = refl
uneven test (x ∷ xs) (y ∷ ys) apart = ap (λ b. test x y && b) (uneven test xs ys (λ e. apart (ap suc e))) ∙ false_end (test x y)

types_pairwise : (tys others : List Ty) → all_same (map same_type tys) others ≡ pairwise same_type tys others
types_pairwise [] [] = refl
types_pairwise [] (o ∷ others) = refl
types_pairwise (ty ∷ tys) [] = refl
types_pairwise (ty ∷ tys) (o ∷ others) = ap (λ b. same_type ty o && b) (types_pairwise tys others)

pub uneven_types : (tys others : List Ty) → (length tys ≡ length others → ⊥) → all_same (map same_type tys) others ≡ false
uneven_types tys others apart = types_pairwise tys others ∙ uneven same_type tys others apart

abbrev same_part : Ty → Element → Bool
same_part ty e = same_type ty e.ty

parts_pairwise : (tys : List Ty) (parts : List Element) → are_pairwise_same tys (map part_type parts) ≡ pairwise same_part tys parts
parts_pairwise [] [] = refl
parts_pairwise [] (e ∷ parts) = refl
parts_pairwise (ty ∷ tys) [] = refl
parts_pairwise (ty ∷ tys) (e ∷ parts) = ap (λ b. same_type ty e.ty && b) (parts_pairwise tys parts)

pub uneven_parts : (tys : List Ty) (parts : List Element) → (length tys ≡ length parts → ⊥) → are_pairwise_same tys (map part_type parts) ≡ false
uneven_parts tys parts apart = parts_pairwise tys parts ∙ uneven same_part tys parts apart

abbrev has_scalar : Scalar → Param → Bool
has_scalar s p = same_scalar (scalar_type s) p.ty

params_pairwise : (ss : List Scalar) (ps : List Param) → are_declared (map scalar_type ss) ps ≡ pairwise has_scalar ss ps
params_pairwise [] [] = refl
params_pairwise [] (p ∷ ps) = refl
params_pairwise (s ∷ ss) [] = refl
params_pairwise (s ∷ ss) (p ∷ ps) = ap (λ b. has_scalar s p && b) (params_pairwise ss ps)

pub uneven_params : (ss : List Scalar) (ps : List Param) → (length ss ≡ length ps → ⊥) → are_declared (map scalar_type ss) ps ≡ false
uneven_params ss ps apart = params_pairwise ss ps ∙ uneven has_scalar ss ps apart
