use Rattle.std.proofs.Common.{◌≡◌, ◌<◌, ℕ, Some, slice_get}
use Rattle.ir_core.specs.declared.instructions.Inst.{Inst}
use Rattle.value_facts.specs.Effects.{HasEffect}
use Rattle.effect_facts.proofs.insts.one_has_effect.Given as goal

abbrev pub invariant-loop-inst : goal.invariant-loop-inst
invariant-loop-inst l = (i : Inst) (place : ℕ) → place < l.inst-index → slice_get l.insts place ≡ Some i → HasEffect l.pointers l.at i → ⊥
