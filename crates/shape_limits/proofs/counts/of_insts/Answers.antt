use Rattle.shapes.specs.Insts.{inst_seen}
use Rattle.shape_limits.specs.Counts.{inst_line}
use Rattle.shape_limits.proofs.LimitLaws.{beyond_there}
use Rattle.shape_limits.proofs.counts.of_insts.Goals as goal

pub returns-in-Some : goal.returns-in-Some
returns-in-Some c =
    let first = beyond_there inst_line inst_seen c.args.insts.now c.instruction_limit.result c.in-Some.inst.now c.in-Some.ensures.lookup.3.0 c.in-Some.ensures.lookup.1 in
    let limit = c.instruction_limit.ensures in
    let told = c.rule.ensures in
    cc
