use Rattle.std.proofs.Common.{sym}
use Rattle.spmd_judge.proofs.FunctionLaws.{line_broken}
use Rattle.spmd_judge.proofs.functions.line_of.Goals as goal

pub returns-then-breaks_function : goal.returns-then-breaks_function
returns-then-breaks_function c =
    let m = c.args.m.now in
    line_broken m c.args.rule c.args.kernel c.args.at c.in-Some.f.now (sym c.in-Some.ensures.value)
    (c.is_on_main_side_of.ensures.0 c.if-is_on_main_side_of.true) ((c.reaches_region.ensures m c.requires).0 c.if-reaches_region.true) (c.breaks_function.ensures.0 c.if-breaks_function.true)
