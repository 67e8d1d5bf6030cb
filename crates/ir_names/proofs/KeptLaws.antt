-- What is refused of a register is told by what is kept of it.
use Rattle.std.proofs.Common.{◌≡◌, ℕ, zero, suc, List, [], ◌∷◌, ◌++◌, map, Option, Some, None, option_map, false, refl, sym, ap, ◌∙◌, ◌==◌, not, append_assoc, arith}
use Rattle.std.specs.List.{flat_map}
use Rattle.std.proofs.lemmas.Bool.Decides.{nat_tests}
use Rattle.ir_core.specs.declared.types.Ty.{Ty, fold-roll-Ty}
use Rattle.ir_core.specs.declared.types.Ty.TheOpen.{Ty-F}
use Rattle.ir_core.specs.Places.{Name}
use Rattle.ir_core.specs.declared.types.Ty.TheVariants.{Int, Ptr, Struct, rolls-Struct}
use Rattle.ir_core.specs.declared.instructions.Kind.{Kind}
use Rattle.ir_core.specs.declared.module.Module.{Module}
use Rattle.ir_core.specs.FirstForm.{same_scalar, is_scalar}
use Rattle.ir_core.specs.Given.{result_type, names_in, named_in_layer, type_given, Local as LocalGiven, Register as RegisterGiven, Label as LabelGiven}
use Rattle.ir_core.specs.Typing.{as_register, calls_local, as_target, expects, is_given, in_type}
use Rattle.name_tables.specs.Kept.{scalar_of, is_of, is_register_type, local_kept}
use Rattle.name_tables.specs.Least.{least_of}
use Rattle.ir_names.specs.Operands.{as_kept, kept_target, kept_callee}

eq_turned : (a b : ℕ) → (a == b) ≡ (b == a)
eq_turned a b = grind (arith, nat_tests)

not_zero : (n : ℕ) → (suc n == 0) ≡ false
not_zero n = grind (arith, nat_tests)

is_of_scalar : (ty given : Ty) → is_of (scalar_of given) ty ≡ same_scalar ty given
is_of_scalar (Int w) (Int g) = eq_turned w g
is_of_scalar (Int w) Ptr = refl
is_of_scalar (Int w) _ = refl
is_of_scalar Ptr (Int g) = refl
is_of_scalar Ptr Ptr = refl
is_of_scalar Ptr _ = refl
is_of_scalar _ (Int g) = refl
is_of_scalar _ Ptr = refl
is_of_scalar _ _ = refl

pub register_type : (ty : Ty) → is_register_type (scalar_of ty) ≡ is_scalar ty
register_type (Int width) = refl
register_type Ptr = refl
register_type _ = refl

pub least_result : (kind : Kind) → least_of (expects (is_register_type (scalar_of (result_type kind)))) ≡ least_of (expects (is_scalar (result_type kind)))
least_result kind = ap (λ b. least_of (expects b)) (register_type (result_type kind))

pub register_same : (ty : Ty) (o : Option LocalGiven) → as_kept ty (option_map local_kept o) ≡ as_register ty o
register_same ty None = refl
register_same ty (Some (RegisterGiven given)) = ap expects (is_of_scalar ty given)
register_same ty (Some (LabelGiven place)) = refl

pub least_register : (ty : Ty) (o : Option LocalGiven) → least_of (as_kept ty (option_map local_kept o)) ≡ least_of (as_register ty o)
least_register ty o = ap least_of (register_same ty o)

flat_map-append : {A B : Type 0} (f : A → List B) (xs ys : List A) → flat_map f (xs ++ ys) ≡ flat_map f xs ++ flat_map f ys
flat_map-append f [] ys = refl
flat_map-append f (x ∷ xs) ys = ap (λ l. f x ++ l) (flat_map-append f xs ys) ∙ sym (append_assoc (f x) (flat_map f xs) (flat_map f ys))

-- the names in the fields of a struct
in_fields : (m : Module) (fields : List Ty) → flat_map (λ x. is_given (type_given m.types x)) (flat_map (λ names. names) (map names_in fields)) ≡ flat_map (in_type m) fields
in_fields m [] = refl
in_fields m (ty ∷ fields) =
    flat_map-append (λ x. is_given (type_given m.types x)) (names_in ty) (flat_map (λ names. names) (map names_in fields))
    ∙ ap (λ l. in_type m ty ++ l) (in_fields m fields)

pub least_target : (o : Option LocalGiven) → least_of (kept_target (option_map local_kept o)) ≡ least_of (as_target o)
least_target None = refl
least_target (Some (RegisterGiven given)) = refl
least_target (Some (LabelGiven zero)) = refl
least_target (Some (LabelGiven (suc place))) = ap (λ b. least_of (expects (not b))) (not_zero place)

pub struct_names : (fields : List Ty) → names_in (Struct fields) ≡ flat_map (λ names. names) (map names_in fields)
struct_names fields = ap names_in (sym (rolls-Struct fields)) ∙ fold-roll-Ty (List Name) named_in_layer (Ty-F.Struct fields)

-- what is refused of the fields is refused of the struct
pub struct_type : (m : Module) (ty : Ty) (fields : List Ty) → ty ≡ Struct fields → flat_map (in_type m) fields ≡ in_type m ty
struct_type m ty fields is =
    sym (in_fields m fields)
    ∙ ap (flat_map (λ x. is_given (type_given m.types x))) (sym (struct_names fields))
    ∙ ap (in_type m) (sym is)

pub least_callee : (o : Option LocalGiven) → least_of (kept_callee (option_map local_kept o)) ≡ least_of (calls_local o)
least_callee None = refl
least_callee (Some (RegisterGiven given)) = refl
least_callee (Some (LabelGiven place)) = refl
