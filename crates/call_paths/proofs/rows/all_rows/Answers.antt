use Rattle.std.proofs.Common.{◌≡◌, ℕ, ◌+◌, List, Bool, length, subst, sym, arith}
use Rattle.reach.specs.Chains.{Leads}
use Rattle.reach.specs.Marks.{HopsTo}
use Rattle.call_paths.specs.Known.{AreRowsOf}
use Rattle.call_paths.proofs.RowLaws.{rows_none, rows_next}
use Rattle.call_paths.proofs.rows.all_rows.Goals as goal

pub loop-from-init : goal.loop-from-init
loop-from-init c =
    let P : List (List Bool) → Type 0 = λ rows. AreRowsOf (Leads (HopsTo c.args.graph.now)) 0 rows in
    subst P (sym c.new-rows.ensures) (rows_none (Leads (HopsTo c.args.graph.now)))

pub loop-from-preserved : goal.loop-from-preserved
loop-from-preserved c =
    let Holds = Leads (HopsTo c.args.graph.now) in
    let from = c.loop-from.from in
    let P : List (List Bool) → Type 0 = λ rows. AreRowsOf Holds (from + 1) rows in
    subst P (sym c.in_ok-push.ensures.ok) (rows_next Holds from c.loop-from.rows c.in_ok-row.row c.loop-from.invariant c.in_ok-row.ensures)

pub returns : goal.returns
returns c =
    let graph = c.args.graph.now in
    let P : ℕ → Type 0 = λ n. AreRowsOf (Leads (HopsTo graph)) n c.loop-from.rows in
    let all : c.loop-from.from ≡ length graph = omega (arith, c.loop-from-test.false, c.loop-from.auto.from-end, c.len-from-end.ensures) in
    subst P all c.loop-from.invariant
