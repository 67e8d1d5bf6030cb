-- What one function breaks.
use Rattle.std.proofs.Common.{◌≡◌, ◌↔◌, ◌⊎◌, ℕ, ◌+◌, ◌<◌, [], Bool, true, Some, None, slice_get, inl, inr, refl, sym, ap, subst, ◌∙◌, arith}
use Rattle.std.proofs.lemmas.Bool.{cases_eq}
use Rattle.std.proofs.lemmas.Option.{none-some, same_Some}
use Rattle.ir_core.specs.declared.module.Module.{Module}
use Rattle.ir_core.specs.declared.module.Function.{Function}
use Rattle.shapes.specs.CallPaths.{IsOnMainSideOf}
use Rattle.call_paths.specs.Runs.{Reaches, ReachesRegion, Runs}
use Rattle.spmd_rules.specs.Rules.{ReachesNone}
use Rattle.spmd_judge.specs.declared.functions.FunctionRule.{FunctionRule}
use Rattle.spmd_judge.specs.Lines.{IsLeastLine}
use Rattle.spmd_judge.specs.Judging.{BreaksFunction, FunctionBreaks}

-- ---- the main side

pub on_main_side : (m : Module) (kernel at : ℕ) (mark : Bool) → Runs m kernel kernel → (mark ≡ true) ↔ Reaches m kernel at → (mark ≡ true) ↔ IsOnMainSideOf m kernel at
on_main_side m kernel at mark runs is = (λ e. (runs.0, is.0 e), λ h. is.1 h.1)

pub runs_itself : (m : Module) (kernel at : ℕ) → IsOnMainSideOf m kernel at → Runs m kernel kernel
runs_itself m kernel at h = (h.0, ([], refl))

-- ---- other kernels

pub none_shared : (m : Module) (kernel at n : ℕ) → ((n ≡ kernel → ⊥) → IsOnMainSideOf m n at → ⊥) → ((other : ℕ) → other < n → (other ≡ kernel → ⊥) → IsOnMainSideOf m other at → ⊥)
    → (other : ℕ) → other < n + 1 → (other ≡ kernel → ⊥) → IsOnMainSideOf m other at → ⊥
none_shared m kernel at n not before other low differs h = either (cases_eq other n) where
  either : (other ≡ n) ⊎ (other ≡ n → ⊥) → ⊥
  either (inl e) = not (λ same. differs (e ∙ same)) (subst (λ k. IsOnMainSideOf m k at) e h)
  either (inr another) = before other (omega (arith, low, another)) differs h

-- ---- the line

module _ (m : Module) (rule : FunctionRule) (kernel at : ℕ) where
  pub line_broken : (f : Function) → slice_get m.functions at ≡ Some f → IsOnMainSideOf m kernel at → ReachesRegion m at → BreaksFunction rule m kernel at → IsLeastLine (FunctionBreaks m rule kernel at) (Some f.line)
  line_broken f there side reaches broken = (
    (f, side, reaches, there, broken, refl),
    λ other h. let e : f.line ≡ other = ap (λ (g : Function). g.line) (same_Some f h.0 (sym there ∙ h.3)) ∙ h.5 in omega (arith, e),
  )

  pub line_missing : slice_get m.functions at ≡ None → IsLeastLine (FunctionBreaks m rule kernel at) None
  line_missing none = λ other h. none-some h.0 (sym none ∙ h.3)

module _ (m : Module) (kernel : ℕ) where
  pub without_region : (f : Function) → slice_get m.functions kernel ≡ Some f → (ReachesRegion m kernel → ⊥) → IsLeastLine (ReachesNone m kernel) (Some f.line)
  without_region f there none = (
    (f, there, none, refl),
    λ other h. let e : f.line ≡ other = ap (λ (g : Function). g.line) (same_Some f h.0 (sym there ∙ h.1)) ∙ h.3 in omega (arith, e),
  )
