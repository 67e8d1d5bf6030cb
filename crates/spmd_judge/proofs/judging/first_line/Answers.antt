use Rattle.std.proofs.Common.{subst}
use Rattle.ir_core.specs.declared.module.Module.{Module}
use Rattle.shapes.specs.CallPaths.{IsOnRegionSide}
use Rattle.spmd_rules.specs.Rules.{AtFunction, ReachesNone, IsShared}
use Rattle.spmd_judge.specs.Lines.{IsLeastLine}
use Rattle.spmd_judge.proofs.RuleLaws.{least_one, least_two, least_three, least_four, least_five, least_six}
use Rattle.spmd_judge.proofs.judging.first_line.Goals as goal

pub returns-in-1 : goal.returns-in-1
returns-in-1 c = least_one c.args.m.now c.args.kernel c.args.rule c.line_without_region.result c.in-1.is (subst (λ (m : Module). IsLeastLine (ReachesNone m c.args.kernel) c.line_without_region.result) c.module.ensures c.line_without_region.ensures)

pub returns-in-2 : goal.returns-in-2
returns-in-2 c = least_two c.args.m.now c.args.kernel c.args.rule c.first_inst.result c.in-2.is c.first_inst.ensures

pub returns-in-3 : goal.returns-in-3
returns-in-3 c = least_three c.args.m.now c.args.kernel c.args.rule c.first_inst-in-3.result c.in-3.is c.first_inst-in-3.ensures

pub returns-in-4 : goal.returns-in-4
returns-in-4 c = least_four c.args.m.now c.args.kernel c.args.rule c.first_function.result c.in-4.is (subst (λ (m : Module). IsLeastLine (AtFunction m c.args.kernel (IsShared m c.args.kernel)) c.first_function.result) c.module-in-4.ensures c.first_function.ensures)

pub returns-in-5 : goal.returns-in-5
returns-in-5 c = least_five c.args.m.now c.args.kernel c.args.rule c.first_inst-in-5.result c.in-5.is c.first_inst-in-5.ensures

pub returns-in-6 : goal.returns-in-6
returns-in-6 c = least_six c.args.m.now c.args.kernel c.args.rule c.first_function-in-6.result c.in-6.is (subst (λ (m : Module). IsLeastLine (AtFunction m c.args.kernel (IsOnRegionSide m)) c.first_function-in-6.result) c.module-in-6.ensures c.first_function-in-6.ensures)
