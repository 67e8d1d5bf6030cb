use Rattle.std.proofs.Common.{◌≡◌, ◌↔◌, ◌⊎◌, List, Bool, Some, true, ap, sym, subst, slice_get, ◌∙◌}
use Rattle.ir_core.specs.declared.module.Module.{Module}
use Rattle.ir_core.specs.Places.{Place, inst_at}
use Rattle.value_facts.specs.Effects.{HasEffect, NeedsGuard}
use Rattle.effect_facts.specs.Marks.{CallsMarked}
use Rattle.effect_facts.proofs.CallLaws.{guard_needed, is_guarded, acts_there}
use Rattle.effect_facts.proofs.facts.Facts.needs_guard.Goals as goal

pub returns-then-is_marked : goal.returns-then-is_marked
returns-then-is_marked c =
    let kept = c.self.inside in
    let rows = kept.rows in
    let m = kept.pointers in
    let are = c.self.invariant.1 in
    let i = c.in-Some.inst.now in
    let p : Place = record { function = c.args.function; block = c.args.block; index = c.args.index } in
    let is : inst_at m p ≡ Some i = ap (λ (k : Module). inst_at k p) (sym (c.module.ensures ∙ c.self.invariant.0)) ∙ sym c.in-Some.ensures in
    let Mark : List Bool → Type 0 = λ row. slice_get row p.function ≡ Some true in
    let marked = subst Mark c.as_slice.ensures (c.is_marked.ensures.0 c.if-is_marked.true) in
    let Acts : Module → List Bool → Type 0 = λ k row. (c.acts.result ≡ true) ↔ (HasEffect m p.function i ⊎ CallsMarked k row i) in
    let acts = subst (λ (row : List Bool). Acts m row) c.as_slice-then-is_marked.ensures (subst (λ (k : Module). Acts k c.as_slice-then-is_marked.result.now) c.self.invariant.0 c.acts.ensures) in
    let P : Module → Type 0 = λ k. (c.acts.result ≡ true) ↔ NeedsGuard k p in
    subst P c.self.view_is (
      λ e. guard_needed m p i rows.effects rows.alone rows.guarded are is marked (acts.0 e),
      λ h. acts.1 (acts_there m p i rows.effects rows.alone rows.guarded are is h),
    )

pub returns-else-is_marked : goal.returns-else-is_marked
returns-else-is_marked c =
    let kept = c.self.inside in
    let rows = kept.rows in
    let m = kept.pointers in
    let are = c.self.invariant.1 in
    let i = c.in-Some.inst.now in
    let p : Place = record { function = c.args.function; block = c.args.block; index = c.args.index } in
    let is : inst_at m p ≡ Some i = ap (λ (k : Module). inst_at k p) (sym (c.module.ensures ∙ c.self.invariant.0)) ∙ sym c.in-Some.ensures in
    let Read : List Bool → Type 0 = λ row. (c.is_marked.result ≡ true) ↔ (slice_get row p.function ≡ Some true) in
    let read = subst Read c.as_slice.ensures c.is_marked.ensures in
    let P : Module → Type 0 = λ k. (c.is_marked.result ≡ true) ↔ NeedsGuard k p in
    subst P c.self.view_is (
      λ e. let no = c.if-is_marked.false in let f : ⊥ = cc in absurd f,
      λ h. read.1 (is_guarded m p i rows.effects rows.alone rows.guarded are is h),
    )
