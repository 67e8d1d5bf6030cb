use Rattle.spmd_judge.specs.Judging.{InFunctionOf}
use Rattle.spmd_judge.proofs.LineLaws.{least_more}
use Rattle.std.proofs.Common.{◌≡◌, length, ap, arith}
use Rattle.ir_core.specs.declared.module.Module.{Module}
use Rattle.spmd_judge.proofs.WalkLaws.{first_at_inst}
use Rattle.spmd_judge.proofs.walks.first_inst.Goals as goal

pub loop-function-preserved : goal.loop-function-preserved
loop-function-preserved c = least_more (InFunctionOf c.args.m.now c.args.rule c.args.kernel) c.loop-function.function c.loop-function.first c.first_in_function_of.result c.lesser-first.result c.lesser-first.ensures c.loop-function.invariant c.first_in_function_of.ensures

pub returns : goal.returns
returns c =
    let m = c.args.m.now in
    let size : length c.module.result.now.functions ≡ length m.functions = ap (λ (k : Module). length k.functions) c.module.ensures in
    first_at_inst m c.args.rule c.args.kernel c.loop-function.function c.loop-function.first (omega (arith, c.loop-function-test.false, c.loop-function.auto.function-end, c.len-function-end.ensures, size)) c.loop-function.invariant
