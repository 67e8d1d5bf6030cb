use Rattle.std.proofs.Common.{◌≡◌, ◌↔◌, List, Bool, true, Some, slice_get, subst}
use Rattle.ir_core.specs.declared.module.Module.{Module}
use Rattle.value_facts.specs.Effects.{SharedEffect}
use Rattle.effect_facts.proofs.EffectLaws.{row_read}
use Rattle.effect_facts.proofs.facts.Facts.shared_effect.Goals as goal

pub returns : goal.returns
returns c =
    let kept = c.self.inside in
    let at = c.args.function in
    let mark = c.is_marked.result in
    let P : Module → Type 0 = λ m. (mark ≡ true) ↔ SharedEffect m at in
    let Q : List Bool → Type 0 = λ row. (mark ≡ true) ↔ (slice_get row at ≡ Some true) in
    subst P c.self.view_is (row_read (λ k. SharedEffect kept.pointers k) kept.rows.effects c.self.invariant.1.effects_row at mark (subst Q c.as_slice.ensures c.is_marked.ensures))
