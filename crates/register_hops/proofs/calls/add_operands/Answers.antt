use Rattle.std.proofs.Common.{rules, ◌∙◌}
use Rattle.register_hops.proofs.HopLaws.{operand_more, operand_past}
use Rattle.register_hops.proofs.calls.add_operands.Goals as goal
use Rattle.register_hops.proofs.calls.add_operands.Goals.{then-place-params+in_ok-add_hop, else-place-params}

pub loop-place-preserved : goal.loop-place-preserved
loop-place-preserved c =
    let m = c.args.numbering.now in
    let vs = c.args.operands.now in
    let ps = c.args.params.now in
    let n = c.loop-place.place in
    let old = c.args.hops.now in
    let new = c.if-place-params.hops in
    let v = c.index-operands-place.result in
    elim c.if-place-params.branch [
      | then-place-params+in_ok-add_hop w ↦
          operand_more m c.args.at c.args.to vs ps n old new c.loop-place.hops v w.index-params-place.result c.loop-place-test.true c.index-operands-place.is w.if-place-params.true w.index-params-place.is c.loop-place.invariant (search rules)
      | else-place-params w ↦ operand_past m c.args.at c.args.to vs ps n old new w.if-place-params.false (w.hops-is ∙ c.loop-place.invariant)
    ]
