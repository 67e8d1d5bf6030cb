use Rattle.std.proofs.Common.{◌≡◌, true, false, refl}
use Rattle.std.proofs.lemmas.Result.{err_from_is_err_and}
use Rattle.read_forms.specs.Read.{head, at_mark, after_comma_at, more_at}
use Rattle.read_forms.proofs.Many.{loop_fails, loop_more, loop_ends}
use Rattle.read_forms.proofs.Lists.{after_comma_shrinks}
use Rattle.read_forms.proofs.repeated.read_more.Goals as goal

pub returns-in_err-item : goal.returns-in_err-item
returns-in_err-item g c =
    let p = err_from_is_err_and c.from_residual.result c.from_residual.ensures.1 in
    let more : at_mark 44 (head c.loop-alloc.rest) ≡ true = cc in
    rw (p.1, p.2) (loop_fails (at_mark 44) (after_comma_at g.T.Part.reading) (after_comma_shrinks g.T.Part.reading c.requires) refl (more_at g.T.Part.reading c.args.before c.args.ahead) c.loop-alloc.out c.loop-alloc.rest c.loop-alloc.invariant c.in_err-item.field-0.0 more c.in_err-item.ensures)

pub loop-alloc-smaller : goal.loop-alloc-smaller
loop-alloc-smaller g c = after_comma_shrinks g.T.Part.reading c.requires c.loop-alloc.rest c.in_ok-item.item c.in_ok-item.after c.in_ok-item.ensures

pub loop-alloc-preserved : goal.loop-alloc-preserved
loop-alloc-preserved g c =
    let more : at_mark 44 (head c.loop-alloc.rest) ≡ true = cc in
    rw c.in_ok-push.ensures.ok (loop_more (at_mark 44) (after_comma_at g.T.Part.reading) (after_comma_shrinks g.T.Part.reading c.requires) refl (more_at g.T.Part.reading c.args.before c.args.ahead) c.loop-alloc.out c.loop-alloc.rest c.loop-alloc.invariant c.in_ok-item.after c.in_ok-item.item more c.in_ok-item.ensures)

pub returns : goal.returns
returns g c =
    let none : at_mark 44 (head c.loop-alloc.rest) ≡ false = cc in
    loop_ends (at_mark 44) (after_comma_at g.T.Part.reading) (after_comma_shrinks g.T.Part.reading c.requires) refl (more_at g.T.Part.reading c.args.before c.args.ahead) c.loop-alloc.out c.loop-alloc.rest c.loop-alloc.invariant none
