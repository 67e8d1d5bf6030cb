use Rattle.std.proofs.Common.{◌≡◌, true, false}
use Rattle.std.proofs.lemmas.Result.{err_from_is_err_and}
use Rattle.read_forms.specs.Read.{head, at_mark}
use Rattle.read_body.specs.Rows.{rows_after}
use Rattle.read_body.proofs.RowLaws.{rows_loop_fails, rows_loop_more, rows_loop_last, rows_loop_ends, row_shrinks}
use Rattle.read_body.proofs.rows.read_more_rows.Goals as goal

pub returns-in_err-item : goal.returns-in_err-item
returns-in_err-item g c =
    let p = err_from_is_err_and c.from_residual.result c.from_residual.ensures.1 in
    let more : at_mark 44 (head c.loop-alloc.rest) ≡ true = cc in
    let f = g.R.Row.reading c.args.row.now in
    rw (p.1, p.2) (rows_loop_fails f c.requires.shrinks (rows_after f c.args.before c.args.ahead) c.loop-alloc.out c.loop-alloc.rest c.loop-alloc.invariant c.in_err-item.field-0.0 more c.in_err-item.ensures)

pub returns-in-None : goal.returns-in-None
returns-in-None g c =
    let more : at_mark 44 (head c.loop-alloc.rest) ≡ true = cc in
    let f = g.R.Row.reading c.args.row.now in
    rows_loop_last f c.requires.shrinks (rows_after f c.args.before c.args.ahead) c.loop-alloc.out c.loop-alloc.rest c.loop-alloc.invariant c.in_ok-item.after more (rw c.in-None.is at c.in_ok-item.ensures)

pub loop-alloc-smaller : goal.loop-alloc-smaller
loop-alloc-smaller g c = row_shrinks (g.R.Row.reading c.args.row.now) c.requires.shrinks c.loop-alloc.rest c.in-Some.item c.in_ok-item.after (rw c.in-Some.is at c.in_ok-item.ensures)

pub loop-alloc-preserved : goal.loop-alloc-preserved
loop-alloc-preserved g c =
    let more : at_mark 44 (head c.loop-alloc.rest) ≡ true = cc in
    let f = g.R.Row.reading c.args.row.now in
    rw c.in_ok-push-in-Some.ensures.ok (rows_loop_more f c.requires.shrinks (rows_after f c.args.before c.args.ahead) c.loop-alloc.out c.loop-alloc.rest c.loop-alloc.invariant c.in_ok-item.after c.in-Some.item more (rw c.in-Some.is at c.in_ok-item.ensures))

pub returns : goal.returns
returns g c =
    let none : at_mark 44 (head c.loop-alloc.rest) ≡ false = cc in
    let f = g.R.Row.reading c.args.row.now in
    rows_loop_ends f c.requires.shrinks (rows_after f c.args.before c.args.ahead) c.loop-alloc.out c.loop-alloc.rest c.loop-alloc.invariant none
