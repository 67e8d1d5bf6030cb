-- What is broken by the rule of one number.
use Rattle.std.proofs.Common.{◌≡◌, ℕ, Option, inl, inr, arith}
use Rattle.ir_core.specs.declared.module.Module.{Module}
use Rattle.shapes.specs.CallPaths.{IsOnRegionSide}
use Rattle.spmd_rules.specs.Rules.{Breaks, AtInst, AtFunction, ReachesNone, StoresStack, AccessesStack, IsShared, CallsWithStack}
use Rattle.spmd_judge.specs.Lines.{IsLeastLine}
use Rattle.spmd_judge.proofs.LineLaws.{least_same}

module _ (m : Module) (kernel rule : ℕ) (o : Option ℕ) where
  only_one : (line : ℕ) → rule ≡ 1 → Breaks m kernel rule line → ReachesNone m kernel line
  only_one line e (inl h) = h.1
  only_one line e (inr (inl h)) = let d = h.0 in absurd (omega (arith, d, e))
  only_one line e (inr (inr (inl h))) = let d = h.0 in absurd (omega (arith, d, e))
  only_one line e (inr (inr (inr (inl h)))) = let d = h.0 in absurd (omega (arith, d, e))
  only_one line e (inr (inr (inr (inr (inl h))))) = let d = h.0 in absurd (omega (arith, d, e))
  only_one line e (inr (inr (inr (inr (inr (h)))))) = let d = h.0 in absurd (omega (arith, d, e))

  pub least_one : rule ≡ 1 → IsLeastLine (ReachesNone m kernel) o → IsLeastLine (Breaks m kernel rule) o
  least_one e = least_same (ReachesNone m kernel) (Breaks m kernel rule) o (λ line. (λ h. inl (e, h), only_one line e))

  only_two : (line : ℕ) → rule ≡ 2 → Breaks m kernel rule line → AtInst m kernel (StoresStack m) line
  only_two line e (inl h) = let d = h.0 in absurd (omega (arith, d, e))
  only_two line e (inr (inl h)) = h.1
  only_two line e (inr (inr (inl h))) = let d = h.0 in absurd (omega (arith, d, e))
  only_two line e (inr (inr (inr (inl h)))) = let d = h.0 in absurd (omega (arith, d, e))
  only_two line e (inr (inr (inr (inr (inl h))))) = let d = h.0 in absurd (omega (arith, d, e))
  only_two line e (inr (inr (inr (inr (inr (h)))))) = let d = h.0 in absurd (omega (arith, d, e))

  pub least_two : rule ≡ 2 → IsLeastLine (AtInst m kernel (StoresStack m)) o → IsLeastLine (Breaks m kernel rule) o
  least_two e = least_same (AtInst m kernel (StoresStack m)) (Breaks m kernel rule) o (λ line. (λ h. inr (inl (e, h)), only_two line e))

  only_three : (line : ℕ) → rule ≡ 3 → Breaks m kernel rule line → AtInst m kernel (AccessesStack m) line
  only_three line e (inl h) = let d = h.0 in absurd (omega (arith, d, e))
  only_three line e (inr (inl h)) = let d = h.0 in absurd (omega (arith, d, e))
  only_three line e (inr (inr (inl h))) = h.1
  only_three line e (inr (inr (inr (inl h)))) = let d = h.0 in absurd (omega (arith, d, e))
  only_three line e (inr (inr (inr (inr (inl h))))) = let d = h.0 in absurd (omega (arith, d, e))
  only_three line e (inr (inr (inr (inr (inr (h)))))) = let d = h.0 in absurd (omega (arith, d, e))

  pub least_three : rule ≡ 3 → IsLeastLine (AtInst m kernel (AccessesStack m)) o → IsLeastLine (Breaks m kernel rule) o
  least_three e = least_same (AtInst m kernel (AccessesStack m)) (Breaks m kernel rule) o (λ line. (λ h. inr (inr (inl (e, h))), only_three line e))

  only_four : (line : ℕ) → rule ≡ 4 → Breaks m kernel rule line → AtFunction m kernel (IsShared m kernel) line
  only_four line e (inl h) = let d = h.0 in absurd (omega (arith, d, e))
  only_four line e (inr (inl h)) = let d = h.0 in absurd (omega (arith, d, e))
  only_four line e (inr (inr (inl h))) = let d = h.0 in absurd (omega (arith, d, e))
  only_four line e (inr (inr (inr (inl h)))) = h.1
  only_four line e (inr (inr (inr (inr (inl h))))) = let d = h.0 in absurd (omega (arith, d, e))
  only_four line e (inr (inr (inr (inr (inr (h)))))) = let d = h.0 in absurd (omega (arith, d, e))

  pub least_four : rule ≡ 4 → IsLeastLine (AtFunction m kernel (IsShared m kernel)) o → IsLeastLine (Breaks m kernel rule) o
  least_four e = least_same (AtFunction m kernel (IsShared m kernel)) (Breaks m kernel rule) o (λ line. (λ h. inr (inr (inr (inl (e, h)))), only_four line e))

  only_five : (line : ℕ) → rule ≡ 5 → Breaks m kernel rule line → AtInst m kernel (CallsWithStack m) line
  only_five line e (inl h) = let d = h.0 in absurd (omega (arith, d, e))
  only_five line e (inr (inl h)) = let d = h.0 in absurd (omega (arith, d, e))
  only_five line e (inr (inr (inl h))) = let d = h.0 in absurd (omega (arith, d, e))
  only_five line e (inr (inr (inr (inl h)))) = let d = h.0 in absurd (omega (arith, d, e))
  only_five line e (inr (inr (inr (inr (inl h))))) = h.1
  only_five line e (inr (inr (inr (inr (inr (h)))))) = let d = h.0 in absurd (omega (arith, d, e))

  pub least_five : rule ≡ 5 → IsLeastLine (AtInst m kernel (CallsWithStack m)) o → IsLeastLine (Breaks m kernel rule) o
  least_five e = least_same (AtInst m kernel (CallsWithStack m)) (Breaks m kernel rule) o (λ line. (λ h. inr (inr (inr (inr (inl (e, h))))), only_five line e))

  only_six : (line : ℕ) → rule ≡ 6 → Breaks m kernel rule line → AtFunction m kernel (IsOnRegionSide m) line
  only_six line e (inl h) = let d = h.0 in absurd (omega (arith, d, e))
  only_six line e (inr (inl h)) = let d = h.0 in absurd (omega (arith, d, e))
  only_six line e (inr (inr (inl h))) = let d = h.0 in absurd (omega (arith, d, e))
  only_six line e (inr (inr (inr (inl h)))) = let d = h.0 in absurd (omega (arith, d, e))
  only_six line e (inr (inr (inr (inr (inl h))))) = let d = h.0 in absurd (omega (arith, d, e))
  only_six line e (inr (inr (inr (inr (inr (h)))))) = h.1

  pub least_six : rule ≡ 6 → IsLeastLine (AtFunction m kernel (IsOnRegionSide m)) o → IsLeastLine (Breaks m kernel rule) o
  least_six e = least_same (AtFunction m kernel (IsOnRegionSide m)) (Breaks m kernel rule) o (λ line. (λ h. inr (inr (inr (inr (inr ((e, h)))))), only_six line e))
