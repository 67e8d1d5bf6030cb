use Rattle.std.proofs.Common.{sym, subst}
use Rattle.call_graph.proofs.AnswerLaws.{StandsIn, answer_either, answer_of_list}
use Rattle.shapes.specs.CallPaths.{IsNested}
use Rattle.shapes.specs.Refusals.{shape_refusals, IsShapeRefusal, IsAnswer}
use Rattle.ir_shapes.proofs.told.of_shapes.Goals as goal

pub returns : goal.returns
returns c =
    let rs = shape_refusals c.args.m.now in
    let listed = subst (IsAnswer (StandsIn rs)) (sym c.in_ok-rules.ensures) (answer_of_list rs) in
    subst (IsAnswer (IsShapeRefusal c.args.m.now)) (sym c.earlier.ensures)
    (answer_either (StandsIn rs) (IsNested c.args.m.now) c.in_ok-rules.rules c.in_ok-nested.nested listed c.in_ok-nested.ensures)
