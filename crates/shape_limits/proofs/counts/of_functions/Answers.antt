use Rattle.shape_limits.specs.Counts.{function_line}
use Rattle.shape_limits.proofs.LimitLaws.{beyond_own}
use Rattle.shape_limits.proofs.counts.of_functions.Goals as goal

pub returns-in-Some : goal.returns-in-Some
returns-in-Some c =
    let first = beyond_own function_line c.args.functions.now c.function_limit.result c.in-Some.f.now c.in-Some.ensures.lookup.3.0 c.in-Some.ensures.lookup.1 in
    let limit = c.function_limit.ensures in
    let told = c.rule.ensures in
    cc
