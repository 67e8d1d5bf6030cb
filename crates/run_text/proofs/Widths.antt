-- The parameters of a kernel are pointers and integers of 64 bits or fewer.
use Rattle.std.proofs.Common.{◌≡◌, ℕ, zero, suc, ◌≤◌, List, [], ◌∷◌, Ok, Bool, true, false, cond, ◌==◌, refl, arith}
use Rattle.std.proofs.lemmas.Bool.{and_parts, eqb-true}
use Rattle.std.specs.List.{list_all}
use Rattle.ir_core.specs.declared.types.Ty.{Ty}
use Rattle.ir_core.specs.declared.types.Ty.TheVariants.{Int as IntTy, Ptr}
use Rattle.ir_core.specs.declared.module.Module.{Module}
use Rattle.ir_core.specs.declared.module.Function.{Function}
use Rattle.ir_core.specs.declared.module.Param.{Param}
use Rattle.ir_core.specs.FirstForm.{is_width, is_scalar, is_scalar_param}
use Rattle.accepted_laws.proofs.Few.{parameters_are_scalars}
use Rattle.checked_modules.specs.Checked.{HasNoRefusal}
use Rattle.run_text.specs.LaunchText.{kernel_line}
use Rattle.run_text.specs.Forms.{HasWidth}
use Rattle.run_text.specs.Stages.{HaveWidths}
use Rattle.run_text.proofs.NamedKernels.{line_names_kernel}

-- ---- types

width_by : (w n : ℕ) (rest : Bool) → 1 ≤ n → n ≤ 64 → ((rest ≡ true) → (1 ≤ w) × (w ≤ 64)) → (b : Bool) → (w == n) ≡ b → cond b true rest ≡ true → (1 ≤ w) × (w ≤ 64)
width_by w n rest l h more true e f = let i = eqb-true w n e in (omega arith, omega arith)
width_by w n rest l h more false e f = more f

of_width : (w : ℕ) → is_width w ≡ true → (1 ≤ w) × (w ≤ 64)
of_width w h =
    width_by w 1 _ (omega arith) (omega arith) (λ h.
    width_by w 8 _ (omega arith) (omega arith) (λ h.
    width_by w 16 _ (omega arith) (omega arith) (λ h.
    width_by w 32 _ (omega arith) (omega arith) (λ h. let i = eqb-true w 64 h in (omega arith, omega arith))
    (w == 32) refl h) (w == 16) refl h) (w == 8) refl h) (w == 1) refl h

scalar_width : (ty : Ty) → is_scalar ty ≡ true → HasWidth ty
scalar_width (IntTy w) h = of_width w h
scalar_width Ptr h = tt
scalar_width _ h = absurd (let f : false ≡ true = h in cc)

-- ---- parameters

none_wide : HaveWidths []
none_wide k d l = absurd (omega arith)

and_wide : (p : Param) (ps : List Param) → HasWidth p.ty → HaveWidths ps → HaveWidths (p ∷ ps)
and_wide p ps w ws zero d l = w
and_wide p ps w ws (suc k) d l = ws k d (omega arith)

scalars_wide : (ps : List Param) → list_all is_scalar_param ps ≡ true → HaveWidths ps
scalars_wide [] h = none_wide
scalars_wide (p ∷ ps) h = let q = and_parts (is_scalar_param p) (list_all is_scalar_param ps) h in and_wide p ps (scalar_width p.ty q.0) (scalars_wide ps q.1)

-- ---- a kernel that a line names

pub line_wide : (m : Module) → HasNoRefusal m → (line : List ℕ) (f : Function) → kernel_line m line ≡ Ok f → HaveWidths f.params
line_wide m rules line f e =
    let kernel = line_names_kernel m line f e in
    scalars_wide f.params (parameters_are_scalars m rules.names kernel.place f kernel.there)
