use Rattle.std.proofs.Common.{◌≡◌, ◌<◌, ℕ, true, Some, slice_get}
use Rattle.call_paths.specs.Runs.{Reaches}
use Rattle.effect_facts.proofs.marks.reaches_mark.Given as goal

abbrev pub invariant-loop-to : goal.invariant-loop-to
invariant-loop-to l = (to : ℕ) → to < l.to → Reaches l._m l.at to → slice_get l.row to ≡ Some true → ⊥
