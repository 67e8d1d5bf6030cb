use Rattle.std.proofs.Common.{◌≡◌, ◌+◌, List, Some, arith, ap, length, slice_get, subst, sym, ◌∙◌}
use Rattle.call_graph.proofs.ListLaws.{read_at}
use Rattle.register_hops.specs.declared.hops.Hop.{Hop}
use Rattle.register_hops.specs.declared.nodes.Node.TheVariants.{Main}
use Rattle.pointer_facts.specs.SideHops.{IsHopOnSide, IsMainHopBefore, AddsHops}
use Rattle.pointer_facts.proofs.SideLaws.{adds_none, adds_next, adds_all, no_kernel}
use Rattle.pointer_facts.proofs.sides.add_kernels.Goals as goal
use Rattle.pointer_facts.proofs.sides.add_kernels.Goals.{then-is_kernel+in_ok-add_side, else-is_kernel}

pub add_side-requires-clause-side : goal.add_side-requires-clause-side
add_side-requires-clause-side c =
    let m = c.args.m.now in
    let f = c.f-item.result in
    let there : slice_get m.functions c.loop-kernel.kernel ≡ Some f = read_at c.as_slice-f-items.result.now m.functions c.loop-kernel.kernel f c.as_slice-f-items.ensures c.loop-kernel-test.true c.f-item.is in
    (f, there, sym c.is_kernel.ensures ∙ c.if-is_kernel.true)

pub loop-kernel-preserved : goal.loop-kernel-preserved
loop-kernel-preserved c =
    let m = c.args.m.now in
    let at = c.loop-kernel.kernel in
    let old = c.args.hops.now in
    let mid = c.loop-kernel.hops in
    let f = c.f-item.result in
    let there : slice_get m.functions at ≡ Some f = read_at c.as_slice-f-items.result.now m.functions at f c.as_slice-f-items.ensures c.loop-kernel-test.true c.f-item.is in
    let P : List Hop → Type 0 = λ hops. AddsHops (IsMainHopBefore m (at + 1)) old hops in
    elim c.if-is_kernel.branch [
      | then-is_kernel+in_ok-add_side w ↦
          subst P (sym w.hops-is) (adds_next (λ k. IsHopOnSide m (Main k)) at old mid w.add_side.new.hops c.loop-kernel.invariant w.in_ok-add_side.ensures)
      | else-is_kernel w ↦
          subst P (sym w.hops-is)
          (adds_next (λ k. IsHopOnSide m (Main k)) at old mid mid c.loop-kernel.invariant
          (adds_none (IsHopOnSide m (Main at)) mid (no_kernel m at f there (sym c.is_kernel.ensures ∙ w.if-is_kernel.false))))
    ]

pub returns : goal.returns
returns c =
    let m = c.args.m.now in
    let size = ap length c.as_slice-f-items.ensures in
    let end : c.loop-kernel.kernel ≡ length m.functions = omega (arith, c.loop-kernel-test.false, c.loop-kernel.auto.kernel-end, size) in
    adds_all (λ k. IsHopOnSide m (Main k)) (length m.functions) c.loop-kernel.kernel c.args.hops.now c.loop-kernel.hops end c.loop-kernel.invariant
