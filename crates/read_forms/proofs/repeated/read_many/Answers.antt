use Rattle.std.proofs.Common.{◌≡◌, true, false}
use Rattle.std.proofs.lemmas.Result.{err_from_is_err_and}
use Rattle.read_forms.specs.Read.{head, many_at}
use Rattle.read_forms.proofs.Many.{loop_fails, loop_more, loop_ends}
use Rattle.read_forms.proofs.repeated.read_many.Goals as goal

pub returns-in_err-item : goal.returns-in_err-item
returns-in_err-item g c =
    let p = err_from_is_err_and c.from_residual.result c.from_residual.ensures.1 in
    let more : g.T.Repeated.goes (head c.loop-alloc.rest) ≡ true = cc in
    rw (p.1, p.2) (loop_fails g.T.Repeated.goes g.T.Part.reading c.requires.shrinks c.requires.ends (many_at g.T.Repeated.goes g.T.Part.reading c.args.ahead) c.loop-alloc.out c.loop-alloc.rest c.loop-alloc.invariant c.in_err-item.field-0.0 more c.in_err-item.ensures)

pub loop-alloc-preserved : goal.loop-alloc-preserved
loop-alloc-preserved g c =
    let more : g.T.Repeated.goes (head c.loop-alloc.rest) ≡ true = cc in
    rw c.in_ok-push.ensures.ok (loop_more g.T.Repeated.goes g.T.Part.reading c.requires.shrinks c.requires.ends (many_at g.T.Repeated.goes g.T.Part.reading c.args.ahead) c.loop-alloc.out c.loop-alloc.rest c.loop-alloc.invariant c.in_ok-item.after c.in_ok-item.item more c.in_ok-item.ensures)

pub returns : goal.returns
returns g c =
    let none : g.T.Repeated.goes (head c.loop-alloc.rest) ≡ false = cc in
    loop_ends g.T.Repeated.goes g.T.Part.reading c.requires.shrinks c.requires.ends (many_at g.T.Repeated.goes g.T.Part.reading c.args.ahead) c.loop-alloc.out c.loop-alloc.rest c.loop-alloc.invariant none
