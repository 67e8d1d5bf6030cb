use Rattle.std.proofs.Common.{sym}
use Rattle.spmd_judge.proofs.FunctionLaws.{without_region}
use Rattle.spmd_judge.proofs.functions.line_without_region.Goals as goal

pub returns-else-reaches_region : goal.returns-else-reaches_region
returns-else-reaches_region c =
    let m = c.args.m.now in
    without_region m c.args.kernel c.in-Some.f.now (sym c.in-Some.ensures.value) (λ r. let is = (c.reaches_region.ensures m c.requires).1 r in let not = c.if-reaches_region.false in let f : ⊥ = cc in f)
