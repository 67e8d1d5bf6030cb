use Rattle.std.proofs.Common.{◌≡◌, ◌<◌, ℕ, Some, slice_get}
use Rattle.ir_core.specs.declared.module.Block.{Block}
use Rattle.effect_facts.specs.Marks.{OneHasEffect}
use Rattle.effect_facts.proofs.insts.has_own_effect.Given as goal

abbrev pub invariant-loop-block : goal.invariant-loop-block
invariant-loop-block l = (b : Block) (place : ℕ) → place < l.block-index → slice_get l.f.blocks place ≡ Some b → OneHasEffect l.pointers l.at b.insts → ⊥
