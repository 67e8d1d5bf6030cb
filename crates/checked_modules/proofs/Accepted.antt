-- What holds of every module of which nothing is refused.
use Rattle.std.proofs.Common.{◌≡◌, ℕ, ◌≤◌, List, [], ◌∷◌, ◌++◌, length, Some, inl, refl, slice_get}
use Rattle.ir_core.specs.declared.module.Module.{Module}
use Rattle.shapes.specs.Facts.{insts_in}
use Rattle.shapes.specs.KernelShape.{kernel_refusals}
use Rattle.shapes.specs.Wrappers.{wrapper_refusals}
use Rattle.shapes.specs.Clauses.{clause_refusals}
use Rattle.shapes.specs.Limits.{limit_refusals, instruction_limit}
use Rattle.shapes.specs.Refusals.{shape_refusals}
use Rattle.accepted_laws.proofs.Nothing.{back_none}
use Rattle.accepted_laws.proofs.Few.{instructions_are_few}
use Rattle.checked_modules.specs.Checked.{HasNoShapeRefusal, HasNoRefusal}

-- a list that nothing is in
nothing_in : {A : Type 0} (xs : List A) → ((place : ℕ) (x : A) → slice_get xs place ≡ Some x → ⊥) → xs ≡ []
nothing_in [] h = refl
nothing_in (x ∷ xs) h = absurd (h 0 x refl)

pub no_refusals : (m : Module) → HasNoShapeRefusal m → shape_refusals m ≡ []
no_refusals m h = nothing_in (shape_refusals m) (λ place r is. h r (inl (place, is)))

pub accepted_few : (m : Module) → HasNoRefusal m → length (insts_in m) ≤ instruction_limit
accepted_few m h = instructions_are_few m (back_none (kernel_refusals m ++ wrapper_refusals m ++ clause_refusals m) (limit_refusals m) (no_refusals m h.shapes))
