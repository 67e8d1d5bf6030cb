use Rattle.std.proofs.Common.{◌≡◌, ◌<◌, ℕ, Some, slice_get}
use Rattle.ir_core.specs.declared.instructions.Typed.{Typed}
use Rattle.value_facts.specs.Pointers.{spot, MayBeStack}
use Rattle.spmd_judge.proofs.insts.passes_stack.Given as goal

abbrev pub invariant-loop-operand : goal.invariant-loop-operand
invariant-loop-operand l = (v : Typed) (place : ℕ) → place < l.operand-index → slice_get l.operands place ≡ Some v → MayBeStack l.facts (spot l.function v.value) → ⊥
