use Rattle.std.proofs.Common.{◌≡◌, ◌<◌, ℕ}
use Rattle.shapes.specs.CallPaths.{IsOnMainSideOf}
use Rattle.spmd_judge.proofs.functions.is_shared.Given as goal

abbrev pub invariant-loop-other : goal.invariant-loop-other
invariant-loop-other l = (other : ℕ) → other < l.other → (other ≡ l.kernel → ⊥) → IsOnMainSideOf l.m other l.at → ⊥
