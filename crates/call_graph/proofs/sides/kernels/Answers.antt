use Rattle.std.proofs.Common.{◌≡◌, ◌+◌, ℕ, List, Some, length, ap, sym, subst, ◌∙◌, slice_get, arith}
use Rattle.ir_core.specs.declared.module.Module.{Module}
use Rattle.call_graph.specs.Graphs.{ArePlacesOf}
use Rattle.call_graph.proofs.ListLaws.{read_at}
use Rattle.call_graph.proofs.SideLaws.{KernelsBelow, all_kernels, kernels_next, kernels_passed}
use Rattle.call_graph.proofs.sides.kernels.Goals as goal
use Rattle.call_graph.proofs.sides.kernels.Goals.{then-is_kernel+in_ok-push, else-is_kernel}

pub loop-at-preserved : goal.loop-at-preserved
loop-at-preserved c =
    let m = c.args.m.now in
    let at = c.loop-at.at in
    let places = c.loop-at.places in
    let f = c.f-item.result in
    let all = c.as_slice-f-items.ensures ∙ ap (λ (k : Module). k.functions) c.module.ensures in
    let there : slice_get m.functions at ≡ Some f = read_at c.as_slice-f-items.result.now m.functions at f all c.loop-at-test.true c.f-item.is in
    let P : List ℕ → Type 0 = λ ps. ArePlacesOf (KernelsBelow m (at + 1)) ps in
    elim c.if-is_kernel.branch [
      | then-is_kernel+in_ok-push w ↦ subst P (sym (w.places-is ∙ w.in_ok-push.ensures.ok)) (kernels_next m at f there places c.loop-at.invariant (sym c.is_kernel.ensures ∙ w.if-is_kernel.true))
      | else-is_kernel w ↦ subst P (sym w.places-is) (kernels_passed m at f there places c.loop-at.invariant (sym c.is_kernel.ensures ∙ w.if-is_kernel.false))
    ]

pub returns : goal.returns
returns c =
    let size = ap length (c.as_slice-f-items.ensures ∙ ap (λ (k : Module). k.functions) c.module.ensures) in
    all_kernels c.args.m.now c.loop-at.at c.loop-at.places (omega (arith, c.loop-at-test.false, size)) c.loop-at.invariant
