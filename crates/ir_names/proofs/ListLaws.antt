-- Lists of another length than the parameters are no arguments.
use Rattle.std.proofs.Common.{◌≡◌, suc, List, [], ◌∷◌, length, true, false, ◌&&◌, refl, ap}
use Rattle.ir_core.specs.declared.module.Param.{Param}
use Rattle.ir_core.specs.declared.instructions.Typed.{Typed}
use Rattle.ir_core.specs.FirstForm.{same_scalar}
use Rattle.ir_core.specs.Typing.{are_arguments}

pub uneven : (ps : List Param) (vs : List Typed) → (length ps ≡ length vs → ⊥) → are_arguments ps vs ≡ false
uneven [] [] apart = absurd (apart refl)
uneven [] (v ∷ vs) apart = refl
uneven (p ∷ ps) [] apart = refl
uneven (p ∷ ps) (v ∷ vs) apart =
    elim (same_scalar p.ty v.ty) as (λ b. (b && are_arguments ps vs) ≡ false) [
      | true ↦ uneven ps vs (λ e. apart (ap suc e))
      | false ↦ refl
    ]
