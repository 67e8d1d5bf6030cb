use Rattle.std.proofs.Common.{ap, ◌∙◌, arith, inl, inr}
use Rattle.mem_model.specs.Eval.{wrapped}
use Rattle.mem_model.proofs.Widths.{quotient_back, quotient_goes}
use Rattle.mem_model.proofs.arithmetic.quotient.Goals as goal
use Rattle.mem_model.proofs.arithmetic.quotient.Goals.{else-flags-via-then-flags+else-x-y-ne0, else-flags-via-else-flags}

pub returns : goal.returns
returns c =
    let back = ap (wrapped c.args.width) (quotient_back c.args.x c.args.y c.ranges.x c.ranges.y (omega arith)) in
    let goes = quotient_goes c.args.flags c.args.width c.args.x c.args.y c.wrapped.result c.ranges.x c.ranges.y (c.wrapped.ensures.value ∙ back) in
    elim c.else-flags.branch [
      | else-flags-via-then-flags+else-x-y-ne0 w ↦ goes (inl (w.if-flags.true, w.if-x-y-ne0.false))
      | else-flags-via-else-flags w ↦ goes (inr w.if-flags.false)
    ]
