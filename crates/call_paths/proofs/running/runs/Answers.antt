use Rattle.std.proofs.Common.{◌≡◌, ℕ, ◌+◌, List, Bool, length, subst, sym, arith}
use Rattle.call_paths.specs.Known.{AreRowsOf}
use Rattle.call_paths.specs.Runs.{Runs}
use Rattle.call_paths.proofs.RowLaws.{rows_none, rows_next}
use Rattle.call_paths.proofs.running.runs.Goals as goal

pub loop-at-init : goal.loop-at-init
loop-at-init c =
    let P : List (List Bool) → Type 0 = λ rows. AreRowsOf (Runs c.args.m.now) 0 rows in
    subst P (sym c.new-rows.ensures) (rows_none (Runs c.args.m.now))

pub loop-at-preserved : goal.loop-at-preserved
loop-at-preserved c =
    let m = c.args.m.now in
    let at = c.loop-at.at in
    let P : List (List Bool) → Type 0 = λ rows. AreRowsOf (Runs m) (at + 1) rows in
    subst P (sym c.in_ok-push.ensures.ok) (rows_next (Runs m) at c.loop-at.rows c.in_ok-row.row c.loop-at.invariant c.in_ok-row.ensures)

pub returns : goal.returns
returns c =
    let m = c.args.m.now in
    let size = c.in_ok-graph.ensures.size in
    let P : ℕ → Type 0 = λ n. AreRowsOf (Runs m) n c.loop-at.rows in
    let all : c.loop-at.at ≡ length m.functions = omega (arith, c.loop-at-test.false, c.loop-at.auto.at-end, c.len-at-end.ensures, size) in
    subst P all c.loop-at.invariant
