use Rattle.std.proofs.Common.{List, Bool, length}
use Rattle.std.proofs.lemmas.Result.{IfOk-weaker}
use Rattle.reach.specs.Chains.{Leads}
use Rattle.reach.specs.Marks.{HopsTo}
use Rattle.shapes.specs.CallPaths.{Calls}
use Rattle.call_paths.specs.Known.{AreRowsOf}
use Rattle.call_paths.specs.Runs.{Reaches}
use Rattle.call_paths.proofs.RowLaws.{rows_as}
use Rattle.call_paths.proofs.calls.reach_rows.Goals as goal

pub returns : goal.returns
returns c =
    let m = c.args.m.now in
    let hops = c.args.calls.now in
    IfOk-weaker c.all_rows.result (λ (rows : List (List Bool)). AreRowsOf (Leads (HopsTo hops)) (length hops) rows) (λ (rows : List (List Bool)). AreRowsOf (Reaches m) (length m.functions) rows)
    (λ rows are. rows_as (Calls m) (length m.functions) hops c.requires rows are) c.all_rows.ensures
