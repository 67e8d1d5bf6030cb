use Rattle.std.proofs.Common.{◌≡◌, ◌+◌, ◌<◌, List, Option, Some, length, ap, sym, subst, ◌∙◌, slice_get, arith}
use Rattle.std.specs.List.{flat_map}
use Rattle.ir_core.specs.declared.instructions.Inst.{Inst}
use Rattle.ir_core.specs.declared.module.Module.{Module}
use Rattle.ir_core.specs.declared.refusal.Refusal.{Refusal}
use Rattle.ir_core.specs.NameRefusals.{least}
use Rattle.shapes.specs.CallPaths.{IsOnRegionSide}
use Rattle.shapes.specs.Insts.{insts_seen}
use Rattle.shapes.specs.Refusals.{IsAnswer}
use Rattle.call_graph.specs.Nested.{nested_fork}
use Rattle.call_graph.proofs.ListLaws.{read_at}
use Rattle.call_graph.proofs.NestedLaws.{NestedBelow, all_nested, nested_next, nested_passed}
use Rattle.call_graph.proofs.SideLaws.{holds_at, fails_at}
use Rattle.call_graph.proofs.nested.forks_inside.Goals as goal
use Rattle.call_graph.proofs.nested.forks_inside.Goals.{then-region-at+in_ok-insts, else-region-at}

pub loop-at-preserved : goal.loop-at-preserved
loop-at-preserved c =
    let m = c.args.m.now in
    let region = c.args.region.now in
    let at = c.loop-at.at in
    let found = c.loop-at.found in
    let f = c.f-item.result in
    let all = c.as_slice-f-items.ensures ∙ ap (λ (k : Module). k.functions) c.module.ensures in
    let there : slice_get m.functions at ≡ Some f = read_at c.as_slice-f-items.result.now m.functions at f all c.loop-at-test.true c.f-item.is in
    let size = ap length all in
    let low : at < length m.functions = omega (arith, c.loop-at-test.true, size) in
    let P : Option Refusal → Type 0 = λ o. IsAnswer (NestedBelow m (at + 1)) o in
    elim c.if-region-at.branch [
      | then-region-at+in_ok-insts w ↦
          let told = w.nested_forks.ensures ∙ ap (λ (is : List Inst). least (flat_map nested_fork is)) (ap insts_seen w.as_slice.ensures ∙ w.in_ok-insts.ensures) in
          subst P (sym (w.found-is ∙ w.earlier-found.ensures))
          (nested_next m at f there (holds_at (IsOnRegionSide m) (length m.functions) region c.requires at _ low w.if-region-at.true) found w.nested_forks.result c.loop-at.invariant told)
      | else-region-at w ↦ subst P (sym w.found-is) (nested_passed m at f there (fails_at (IsOnRegionSide m) (length m.functions) region c.requires at _ low w.if-region-at.false) found c.loop-at.invariant)
    ]

pub returns : goal.returns
returns c =
    let size = ap length (c.as_slice-f-items.ensures ∙ ap (λ (k : Module). k.functions) c.module.ensures) in
    all_nested c.args.m.now c.loop-at.at c.loop-at.found (omega (arith, c.loop-at-test.false, size)) c.loop-at.invariant
