use Rattle.spmd_judge.specs.Judging.{FunctionBreaks}
use Rattle.spmd_judge.proofs.LineLaws.{least_more}
use Rattle.std.proofs.Common.{arith}
use Rattle.spmd_judge.proofs.WalkLaws.{first_at_function}
use Rattle.spmd_judge.proofs.functions.first_function.Goals as goal

pub loop-at-preserved : goal.loop-at-preserved
loop-at-preserved c = least_more (FunctionBreaks c.args.m.now c.args.rule c.args.kernel) c.loop-at.at c.loop-at.first c.line_of.result c.lesser-first.result c.lesser-first.ensures c.loop-at.invariant c.line_of.ensures

pub returns : goal.returns
returns c =
    let m = c.args.m.now in
    first_at_function m c.args.rule c.args.kernel c.loop-at.at c.loop-at.first (omega (arith, c.loop-at-test.false, c.loop-at.auto.at-end, c.len-at-end.ensures)) c.loop-at.invariant
