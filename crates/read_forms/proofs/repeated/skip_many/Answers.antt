use Rattle.std.proofs.Common.{◌≡◌, true, false}
use Rattle.std.proofs.lemmas.Result.{err_from_is_err_and}
use Rattle.read_forms.specs.Read.{head, dropped_at}
use Rattle.read_forms.proofs.Many.{drop_fails, drop_more, drop_ends}
use Rattle.read_forms.proofs.repeated.skip_many.Goals as goal

pub returns-in_err-after : goal.returns-in_err-after
returns-in_err-after g c =
    let p = err_from_is_err_and c.from_residual.result c.from_residual.ensures.1 in
    let more : g.T.Repeated.goes (head c.loop-alloc.rest) ≡ true = cc in
    rw (p.1, p.2) (drop_fails g.T.Repeated.goes g.T.Part.reading c.requires.shrinks c.requires.ends (dropped_at g.T.Repeated.goes g.T.Part.reading c.args.ahead) c.loop-alloc.rest c.loop-alloc.invariant c.in_err-after.field-0.0 more c.in_err-after.ensures)

pub loop-alloc-preserved : goal.loop-alloc-preserved
loop-alloc-preserved g c =
    let more : g.T.Repeated.goes (head c.loop-alloc.rest) ≡ true = cc in
    drop_more g.T.Repeated.goes g.T.Part.reading c.requires.shrinks c.requires.ends (dropped_at g.T.Repeated.goes g.T.Part.reading c.args.ahead) c.loop-alloc.rest c.loop-alloc.invariant c.in_ok-after.after c.in_ok-after.field-0-0 more c.in_ok-after.ensures

pub returns : goal.returns
returns g c =
    let none : g.T.Repeated.goes (head c.loop-alloc.rest) ≡ false = cc in
    drop_ends g.T.Repeated.goes g.T.Part.reading c.requires.shrinks c.requires.ends (dropped_at g.T.Repeated.goes g.T.Part.reading c.args.ahead) c.loop-alloc.rest c.loop-alloc.invariant none
