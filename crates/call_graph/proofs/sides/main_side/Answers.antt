use Rattle.std.proofs.Common.{Bool, Vec, Global, length}
use Rattle.std.proofs.lemmas.Result.{IfOk-weaker}
use Rattle.reach.specs.Marks.{Marks}
use Rattle.shapes.specs.CallPaths.{IsOnMainSide}
use Rattle.call_graph.specs.Graphs.{AreMarksOf}
use Rattle.call_graph.proofs.SideLaws.{main_roots, main_marks}
use Rattle.call_graph.proofs.sides.main_side.Goals as goal

pub reached-requires : goal.reached-requires
reached-requires c = main_roots c.args.m.now c.args.calls.now c.in_ok-roots.roots c.as_slice.result.now c.requires c.as_slice.ensures c.in_ok-roots.ensures

pub returns : goal.returns
returns c =
    let m = c.args.m.now in
    let hops = c.args.calls.now in
    let given = c.as_slice.result.now in
    IfOk-weaker c.reached.result (λ (v : Vec Bool Global). Marks hops given v.items) (λ (v : Vec Bool Global). AreMarksOf (IsOnMainSide m) (length m.functions) v.items)
    (λ v found. main_marks m hops c.in_ok-roots.roots given c.requires c.as_slice.ensures c.in_ok-roots.ensures v.items found) c.reached.ensures
