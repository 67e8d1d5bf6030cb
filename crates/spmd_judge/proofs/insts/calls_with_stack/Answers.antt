use Rattle.std.proofs.Common.{◌≡◌, ◌↔◌, ◌⊎◌, ℕ, List, Some, true, ap, sym, subst, ◌∙◌}
use Rattle.std.specs.Option.{is_some}
use Rattle.ir_core.specs.declared.instructions.Typed.{Typed}
use Rattle.ir_core.specs.declared.module.Module.{Module}
use Rattle.register_hops.specs.Hops.{defined_place}
use Rattle.spmd_rules.specs.Rules.{PassesStack, ReturnsStack, CallsWithStack}
use Rattle.value_facts.specs.Effects.{NeedsGuard}
use Rattle.spmd_judge.specs.Judging.{place_of}
use Rattle.spmd_judge.proofs.InstLaws.{some_of, calls, calls_defined, calls_passing}
use Rattle.spmd_judge.proofs.insts.calls_with_stack.Goals as goal
use Rattle.spmd_judge.proofs.insts.calls_with_stack.Goals.{then-is_some, else-is_some}

pub returns-then-needs_guard : goal.returns-then-needs_guard
returns-then-needs_guard c =
    let m = c.args.m.now in
    let at = c.args.function in
    let p = place_of at c.args.block c.args.index in
    let i = c.args.inst.now in
    let k = c.in-Call in
    let Moves : Module → List Typed → Type 0 = λ n ops. (c.moves_stack.result ≡ true) ↔ (PassesStack n at ops ⊎ ReturnsStack n at i.result) in
    let moves = subst (λ (n : Module). Moves n k.args) c.requires.facts (subst (λ (ops : List Typed). Moves c.args.facts.now ops) c.as_slice.ensures c.moves_stack.ensures) in
    let Found : Type 0 = ((to : ℕ) × (defined_place m k.callee ≡ Some to)) × NeedsGuard m p in
    let found : Found = elim c.if-is_some.branch [
      | then-is_some w ↦ (
        some_of (defined_place m k.callee) (ap is_some (sym c.defined_place.ensures) ∙ sym c.is_some.ensures ∙ w.if-is_some.true),
        subst (λ (n : Module). NeedsGuard n p) c.requires.facts (w.needs_guard.ensures.0 (sym w.value-is ∙ c.if-needs_guard.true)),
      )
      | else-is_some w ↦ (let a = w.if-is_some.false in let b = w.value-is in let t = c.if-needs_guard.true in let f : ⊥ = cc in absurd f)
    ] in (
      λ e. calls m p i k.tail k.ret k.callee k.args k.is c.requires.there found.0.0 found.0.1 found.1 (moves.0 e),
      λ h. moves.1 (calls_passing m p i k.tail k.ret k.callee k.args k.is h),
    )

pub returns-else-needs_guard : goal.returns-else-needs_guard
returns-else-needs_guard c =
    let m = c.args.m.now in
    let p = place_of c.args.function c.args.block c.args.index in
    let i = c.args.inst.now in
    let k = c.in-Call in
    let never : CallsWithStack m p i → ⊥ = λ h. elim c.if-is_some.branch [
      | then-is_some w ↦ (
          let g = w.needs_guard.ensures.1 (subst (λ (n : Module). NeedsGuard n p) (sym c.requires.facts) h.2) in
          let b = w.value-is in
          let t = c.if-needs_guard.false in
          let f : ⊥ = cc in
          f
          )
      | else-is_some w ↦ (
          let d : is_some (defined_place m k.callee) ≡ true = ap is_some (calls_defined m p i k.tail k.ret k.callee k.args k.is h) in
          let s : c.is_some.result ≡ true = c.is_some.ensures ∙ ap is_some c.defined_place.ensures ∙ d in
          let a = w.if-is_some.false in
          let f : ⊥ = cc in
          f
          )
    ] in
    (λ e. let t = c.if-needs_guard.false in let f : ⊥ = cc in absurd f, λ h. absurd (never h))
