-- What is told of a kernel in either mode.
use Rattle.std.proofs.Common.{◌≡◌, suc, List, [], ◌∷◌, length, filter, cond, Bool, true, false, Option, Some, None, refl, ap, ◌++◌, ◌∙◌, if◌then◌else◌}
use Rattle.std.specs.Borrow.{Bor}
use Rattle.std.specs.List.{flat_map}
use Rattle.ir_core.specs.declared.instructions.Inst.{Inst}
use Rattle.ir_core.specs.declared.module.Global.{Global}
use Rattle.ir_core.specs.declared.refusal.Refusal.{Refusal}
use Rattle.shapes.specs.Insts.{inst_seen, insts_seen}
use Rattle.ir_core.specs.NameRefusals.{is_before, lesser, least}
use Rattle.shapes.specs.KernelShape.{spmd_call, spmd_global, of_modes}

some_told : (r : Refusal) (o : Option Refusal) → None ≡ lesser r o → ⊥
some_told r None e = let f : ⊥ = cc in f
some_told r (Some s) e = by (is_before s r) e
  where
    by : (b : Bool) → None ≡ (if b then Some s else Some r) → ⊥
    by true e = let f : ⊥ = cc in f
    by false e = let f : ⊥ = cc in f

-- where something is told of SPMD mode
pub in_spmd : (spmd generic : List Refusal) (r : Refusal) → Some r ≡ least spmd → Some r ≡ least (of_modes spmd generic)
in_spmd [] generic r e = let f : ⊥ = cc in absurd f
in_spmd (q ∷ qs) generic r e = e

-- where nothing is
pub in_generic : (spmd generic : List Refusal) (o : Option Refusal) → None ≡ least spmd → o ≡ least generic → o ≡ least (of_modes spmd generic)
in_generic [] generic o e is = is
in_generic (q ∷ qs) generic o e is = absurd (some_told q (least qs) e)

pub spmd_told : (is js : List Inst) (g h : Option Global) → is ≡ js → g ≡ h → least (flat_map spmd_call is ++ spmd_global g) ≡ least (flat_map spmd_call js ++ spmd_global h)
spmd_told is js g h p q = ap (λ ks. least (flat_map spmd_call ks ++ spmd_global g)) p ∙ ap (λ k. least (flat_map spmd_call js ++ spmd_global k)) q

-- ---- how many instructions are of a kind

pub counted : (test : Inst → Bool) (insts : List (Bor Inst)) → length (filter (λ i. test (inst_seen i)) insts) ≡ length (filter test (insts_seen insts))
counted test [] = refl
counted test (i ∷ is) = elim (test (inst_seen i)) as (λ (b : Bool). length (cond b (i ∷ filter (λ j. test (inst_seen j)) is) (filter (λ j. test (inst_seen j)) is)) ≡ length (cond b (inst_seen i ∷ filter test (insts_seen is)) (filter test (insts_seen is)))) [
  | true ↦ ap suc (counted test is)
  | false ↦ counted test is
]
