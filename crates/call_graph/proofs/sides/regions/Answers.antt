use Rattle.std.proofs.Common.{◌≡◌, ◌+◌, ◌<◌, ◌++◌, ℕ, List, Some, length, ap, sym, subst, ◌∙◌, slice_get, arith}
use Rattle.std.specs.List.{flat_map}
use Rattle.ir_core.specs.declared.instructions.Inst.{Inst}
use Rattle.ir_core.specs.declared.module.Module.{Module}
use Rattle.shapes.specs.CallPaths.{IsOnMainSide}
use Rattle.shapes.specs.Insts.{insts_seen}
use Rattle.call_graph.specs.Graphs.{ArePlacesOf}
use Rattle.call_graph.specs.Targets.{forked}
use Rattle.call_graph.proofs.ListLaws.{read_at}
use Rattle.call_graph.proofs.SideLaws.{RegionsBelow, all_regions, regions_next, regions_passed, holds_at, fails_at}
use Rattle.call_graph.proofs.sides.regions.Goals as goal
use Rattle.call_graph.proofs.sides.regions.Goals.{then-main-at+in_ok-insts+in_ok-add_forked, else-main-at}

pub loop-at-preserved : goal.loop-at-preserved
loop-at-preserved c =
    let m = c.args.m.now in
    let main = c.args.main.now in
    let at = c.loop-at.at in
    let places = c.loop-at.places in
    let f = c.f-item.result in
    let all = c.as_slice-f-items.ensures ∙ ap (λ (k : Module). k.functions) c.module.ensures in
    let there : slice_get m.functions at ≡ Some f = read_at c.as_slice-f-items.result.now m.functions at f all c.loop-at-test.true c.f-item.is in
    let size = ap length all in
    let low : at < length m.functions = omega (arith, c.loop-at-test.true, size) in
    let P : List ℕ → Type 0 = λ ps. ArePlacesOf (RegionsBelow m (at + 1)) ps in
    elim c.if-main-at.branch [
      | then-main-at+in_ok-insts+in_ok-add_forked w ↦
          let insts = ap (λ (is : List Inst). places ++ flat_map (forked m) is) (ap insts_seen w.as_slice.ensures ∙ w.in_ok-insts.ensures) in
          subst P (sym (w.places-is ∙ w.in_ok-add_forked.ensures ∙ insts))
          (regions_next m at f there places c.loop-at.invariant (holds_at (IsOnMainSide m) (length m.functions) main c.requires at _ low w.if-main-at.true))
      | else-main-at w ↦ subst P (sym w.places-is) (regions_passed m at f there places c.loop-at.invariant (fails_at (IsOnMainSide m) (length m.functions) main c.requires at _ low w.if-main-at.false))
    ]

pub returns : goal.returns
returns c =
    let size = ap length (c.as_slice-f-items.ensures ∙ ap (λ (k : Module). k.functions) c.module.ensures) in
    all_regions c.args.m.now c.loop-at.at c.loop-at.places (omega (arith, c.loop-at-test.false, size)) c.loop-at.invariant
