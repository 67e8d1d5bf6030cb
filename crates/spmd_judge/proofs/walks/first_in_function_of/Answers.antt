use Rattle.spmd_judge.specs.Judging.{InFunction, InFunctionOf}
use Rattle.spmd_judge.proofs.LineLaws.{least_same}
use Rattle.spmd_judge.proofs.WalkLaws.{side_is}
use Rattle.spmd_judge.proofs.walks.first_in_function_of.Goals as goal

pub returns-then-is_on_main_side_of : goal.returns-then-is_on_main_side_of
returns-then-is_on_main_side_of c =
    let m = c.args.m.now in
    let side = side_is m c.module.result.now c.args.kernel c.args.function c.is_on_main_side_of.result c.module.ensures c.is_on_main_side_of.ensures in
    least_same (InFunction m c.args.rule c.args.function) (InFunctionOf m c.args.rule c.args.kernel c.args.function) c.first_in_function.result (λ line. (λ h. (side.0 c.if-is_on_main_side_of.true, h), λ h. h.1)) c.first_in_function.ensures

pub returns-else-is_on_main_side_of : goal.returns-else-is_on_main_side_of
returns-else-is_on_main_side_of c =
    let m = c.args.m.now in
    let side = side_is m c.module.result.now c.args.kernel c.args.function c.is_on_main_side_of.result c.module.ensures c.is_on_main_side_of.ensures in
    λ line h. let is = side.1 h.0 in let not = c.if-is_on_main_side_of.false in let f : ⊥ = cc in f
