use Rattle.std.proofs.Common.{arith}
use Rattle.call_graph.proofs.SideLaws.{kernel_within}
use Rattle.spmd_judge.proofs.FunctionLaws.{none_shared}
use Rattle.spmd_judge.proofs.functions.is_shared.Goals as goal

pub loop-other-preserved : goal.loop-other-preserved
loop-other-preserved c =
    none_shared c.args.m.now c.args.kernel c.args.at c.loop-other.other
    (λ differs h. let is = c.is_on_other_side.ensures.1 (differs, h) in let not = c.if-is_on_other_side.false in let f : ⊥ = cc in f)
    c.loop-other.invariant

pub returns : goal.returns
returns c = (
  λ e. let f : ⊥ = cc in absurd f,
  λ h. let low = kernel_within c.args.m.now h.0 h.2.0 in
      absurd (c.loop-other.invariant h.0 (omega (arith, low, c.loop-other-test.false, c.loop-other.auto.other-end, c.len-other-end.ensures)) h.1 h.2),
)
