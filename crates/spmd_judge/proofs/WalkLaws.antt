-- The first line on the main side.
use Rattle.std.proofs.Common.{◌≡◌, ◌↔◌, ℕ, ◌<◌, ◌≤◌, length, Bool, true, Option, subst, arith}
use Rattle.std.proofs.lemmas.Option.{slice_get_within}
use Rattle.ir_core.specs.declared.module.Module.{Module}
use Rattle.effect_facts.proofs.CallLaws.{stands_at}
use Rattle.shapes.specs.CallPaths.{IsOnMainSideOf}
use Rattle.spmd_rules.specs.Rules.{AtInst, AtFunction}
use Rattle.spmd_judge.specs.declared.insts.InstRule.{InstRule}
use Rattle.spmd_judge.specs.declared.functions.FunctionRule.{FunctionRule}
use Rattle.spmd_judge.specs.Lines.{IsLeastLine, Below}
use Rattle.spmd_judge.specs.Judging.{place_of, BreaksInst, BreaksAt, InBlock, InFunction, InFunctionOf, BreaksFunction, FunctionBreaks}
use Rattle.spmd_judge.proofs.LineLaws.{least_all, least_same}

pub side_is : (m n : Module) (kernel at : ℕ) (mark : Bool) → n ≡ m → (mark ≡ true) ↔ IsOnMainSideOf n kernel at → (mark ≡ true) ↔ IsOnMainSideOf m kernel at
side_is m n kernel at mark same is = subst (λ (k : Module). (mark ≡ true) ↔ IsOnMainSideOf k kernel at) same is

module _ (m : Module) (rule : InstRule) (kernel : ℕ) where
  at_inst : (function line : ℕ) → InFunctionOf m rule kernel function line → AtInst m kernel (BreaksInst rule m) line
  at_inst function line h =
      let f : InFunction m rule function line = h.1 in
      let b : InBlock m rule function f.0 line = f.1 in
      let d : BreaksAt m rule (place_of function f.0 b.0) line = b.1 in
      (place_of function f.0 b.0, d.0, h.0, d.1, d.2, d.3)

  in_function_of : (line : ℕ) → AtInst m kernel (BreaksInst rule m) line → (function : ℕ) × InFunctionOf m rule kernel function line
  in_function_of line h =
      let p = h.0 in
      let d : BreaksAt m rule p line = (h.1, h.3, h.4, h.5) in
      let b : InBlock m rule p.function p.block line = (p.index, d) in
      let f : InFunction m rule p.function line = (p.block, b) in
      (p.function, (h.2, f))

  within : (function line : ℕ) → InFunctionOf m rule kernel function line → function < length m.functions
  unfolding at_inst
  within function line h =
      let a = at_inst function line h in
      let s = stands_at m a.0 a.1 a.3 in
      slice_get_within m.functions a.0.function s.0 s.2

  pub first_at_inst : (n : ℕ) (r : Option ℕ) → length m.functions ≤ n → IsLeastLine (Below (InFunctionOf m rule kernel) n) r → IsLeastLine (AtInst m kernel (BreaksInst rule m)) r
  first_at_inst n r all least =
      least_same (λ line. (function : ℕ) × InFunctionOf m rule kernel function line) (AtInst m kernel (BreaksInst rule m)) r (λ line. (λ h. at_inst h.0 line h.1, in_function_of line))
      (least_all (InFunctionOf m rule kernel) n r (λ function line h. let low = within function line h in omega (arith, low, all)) least)

module _ (m : Module) (rule : FunctionRule) (kernel : ℕ) where
  at_function : (at line : ℕ) → FunctionBreaks m rule kernel at line → AtFunction m kernel (BreaksFunction rule m kernel) line
  at_function at line h = (at, h.0, h.1, h.2, h.3, h.4, h.5)

  function_breaks : (line : ℕ) → AtFunction m kernel (BreaksFunction rule m kernel) line → (at : ℕ) × FunctionBreaks m rule kernel at line
  function_breaks line h = (h.0, (h.1, h.2, h.3, h.4, h.5, h.6))

  function_within : (at line : ℕ) → FunctionBreaks m rule kernel at line → at < length m.functions
  function_within at line h = slice_get_within m.functions at h.0 h.3

  pub first_at_function : (n : ℕ) (r : Option ℕ) → length m.functions ≤ n → IsLeastLine (Below (FunctionBreaks m rule kernel) n) r → IsLeastLine (AtFunction m kernel (BreaksFunction rule m kernel)) r
  first_at_function n r all least =
      least_same (λ line. (at : ℕ) × FunctionBreaks m rule kernel at line) (AtFunction m kernel (BreaksFunction rule m kernel)) r (λ line. (λ h. at_function h.0 line h.1, function_breaks line))
      (least_all (FunctionBreaks m rule kernel) n r (λ at line h. let low = function_within at line h in omega (arith, low, all)) least)
