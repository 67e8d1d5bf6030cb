-- What is told of a kernel.
use Rattle.std.specs.Prelude.{◌≡◌, ◌<◌, ℕ, List, [], map, Some, slice_get}
use Rattle.ir_core.specs.declared.module.Module.{Module}
use Rattle.spmd_rules.specs.Rules as rules
use Rattle.spmd_judge.specs.declared.judging.Reason.{Reason}
use Rattle.spmd_judge.specs.declared.judging.Verdict.{Verdict}
use Rattle.spmd_judge.specs.declared.judging.Verdict.TheVariants.{Spmd, Not}

abbrev pub reason_seen : Reason → rules.Reason
reason_seen r = record { rule = r.rule; line = r.line }

abbrev pub reasons_seen : List Reason → List rules.Reason
reasons_seen reasons = map reason_seen reasons

-- of the rules below a number, those that are broken, by rising numbers
pub record AreReasonsBelow (m : Module) (kernel rule : ℕ) (reasons : List rules.Reason) : Type 0 where
  pub rising : rules.IsRising reasons
  pub told : (place : ℕ) (r : rules.Reason) → slice_get reasons place ≡ Some r → rules.IsReason m kernel r × (r.rule < rule)
  pub all : (other line : ℕ) → rules.Breaks m kernel other line → other < rule → (place : ℕ) × (r : rules.Reason) × (slice_get reasons place ≡ Some r) × (r.rule ≡ other)

-- no rule is broken, or the reasons are those that are
abbrev pub IsVerdict : Module → ℕ → Verdict → Type 0
IsVerdict m kernel Spmd = rules.Conditions m kernel
IsVerdict m kernel (Not reasons) = rules.AreReasons m kernel (reasons_seen reasons) × (reasons ≡ [] → ⊥)
