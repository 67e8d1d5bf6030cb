-- The registers of the instructions of a kind, as a list and by a test on each instruction.
use Rattle.std.proofs.Common.{◌≡◌, List, [], ◌∷◌, ◌++◌, Bool, true, false, ◌&&◌, ◌||◌, Option, Some, None, refl, ap, ◌∙◌, if◌then◌else◌}
use Rattle.std.specs.List.{list_any}
use Rattle.std.specs.Str.{bytes_eq}
use Rattle.ir_core.specs.declared.instructions.Value.{Value}
use Rattle.ir_core.specs.declared.instructions.Value.TheVariants.{Local as LocalValue}
use Rattle.ir_core.specs.declared.instructions.Kind.{Kind}
use Rattle.ir_core.specs.declared.instructions.Inst.{Inst}
use Rattle.ir_core.specs.Places.{Name, result_names}
use Rattle.ir_core.specs.Wrappers.{is_in}
use Rattle.ir_tables.proofs.Places.{same_turned}
use Rattle.shapes.specs.Facts.{gives}
use Rattle.shapes.specs.KernelShape.{makes_block, makes_own, is_alloca_in, is_own_pointer}
use Rattle.kernel_shapes.specs.Own.{is_register_in, result_where, names_where}

with_name : (b : Bool) (rest more : Bool) → rest ≡ more → (if b then true else rest) ≡ ((b && true) || more)
with_name true rest more e = refl
with_name false rest more e = e

left_out : (b : Bool) (rest more : Bool) → rest ≡ more → rest ≡ ((b && false) || more)
left_out true rest more e = e
left_out false rest more e = e

abbrev with_result : Inst → Option Name → Inst
with_result i o = record { result = o; kind = i.kind; line = i.line }

one_named : (holds : Bool) (x : Name) (i : Inst) (rest : List Name) (more : Bool) → is_in rest x ≡ more → is_in (result_where holds i ++ rest) x ≡ ((gives x i && holds) || more)
one_named true x i rest more e = elim i.result as (λ (o : Option Name). is_in (result_names o ++ rest) x ≡ ((gives x (with_result i o) && true) || more)) [
  | None ↦ e
  | Some y ↦ ap (λ (b : Bool). if b then true else is_in rest x) (same_turned x y) ∙ with_name (bytes_eq y x) (is_in rest x) more e
]
one_named false x i rest more e = left_out (gives x i) (is_in rest x) more e

pub named_where : (holds : Kind → Bool) (insts : List Inst) (x : Name) → is_in (names_where holds insts) x ≡ list_any (λ i. gives x i && holds i.kind) insts
named_where holds [] x = refl
named_where holds (i ∷ is) x = one_named (holds i.kind) x i (names_where holds is) (list_any (λ j. gives x j && holds j.kind) is) (named_where holds is x)

pub alloca_in : (insts : List Inst) (value : Value) → is_register_in (names_where makes_block insts) value ≡ is_alloca_in insts value
alloca_in insts (LocalValue x) = named_where makes_block insts x
alloca_in insts _ = refl

pub own_in : (insts : List Inst) (value : Value) → is_register_in (names_where (makes_own insts) insts) value ≡ is_own_pointer insts value
own_in insts (LocalValue x) = named_where (makes_own insts) insts x
own_in insts _ = refl
