use Rattle.std.proofs.Common.{◌≡◌, length}
use Rattle.read_body.specs.Rows.{rows_after}
use Rattle.read_body.proofs.rows.read_more_rows.Given as goal

abbrev pub invariant-loop-alloc : goal.invariant-loop-alloc
invariant-loop-alloc g l = rows_after (g.R.Row.reading l.fn.row) l.fn.before l.fn.ahead ≡ rows_after (g.R.Row.reading l.fn.row) l.out l.rest

abbrev pub decreases-loop-alloc : goal.decreases-loop-alloc
decreases-loop-alloc g l = length l.rest
