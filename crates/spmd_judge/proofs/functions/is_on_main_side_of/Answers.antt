use Rattle.call_graph.proofs.SideLaws.{kernel_within}
use Rattle.spmd_judge.proofs.FunctionLaws.{on_main_side}
use Rattle.spmd_judge.proofs.functions.is_on_main_side_of.Goals as goal

pub returns-then-reached_by : goal.returns-then-reached_by
returns-then-reached_by c =
    let m = c.args._m.now in
    let kernel = c.args.kernel in
    let runs = (c.reached_by.ensures m c.requires).0 c.if-reached_by.true in
    on_main_side m kernel c.args.at c.reaches.result runs (c.reaches.ensures m c.requires (kernel_within m kernel runs.0))
