use Rattle.std.proofs.Common.{◌≡◌, true, false}
use Rattle.std.proofs.lemmas.Result.{err_from_is_err_and}
use Rattle.read_forms.specs.Read.{head}
use Rattle.read_items.specs.Gathered.{gathered_at}
use Rattle.read_items.proofs.Gathered.{gathered_more, gathered_ends, gathered_fails}
use Rattle.read_items.proofs.words.gather.Goals as goal

pub returns-in_err-names : goal.returns-in_err-names
returns-in_err-names g c =
    let p = err_from_is_err_and c.from_residual.result c.from_residual.ensures.1 in
    let more : g.T.Words.goes (head c.loop-alloc.rest) ≡ true = cc in
    rw (p.1, p.2) (gathered_fails g.T.Words.goes g.T.Words.reading c.requires.shrinks c.requires.ends (gathered_at g.T.Words.goes g.T.Words.reading c.args.ahead) c.loop-alloc.out c.loop-alloc.rest c.loop-alloc.invariant c.in_err-names.field-0.0 more c.in_err-names.ensures)

pub loop-alloc-smaller : goal.loop-alloc-smaller
loop-alloc-smaller g c = c.requires.shrinks c.loop-alloc.rest c.in_ok-names.names c.in_ok-names.after c.in_ok-names.ensures

pub loop-alloc-preserved : goal.loop-alloc-preserved
loop-alloc-preserved g c =
    let more : g.T.Words.goes (head c.loop-alloc.rest) ≡ true = cc in
    rw c.in_ok-append.ensures (gathered_more g.T.Words.goes g.T.Words.reading c.requires.shrinks c.requires.ends (gathered_at g.T.Words.goes g.T.Words.reading c.args.ahead) c.loop-alloc.out c.loop-alloc.rest c.loop-alloc.invariant c.in_ok-names.after c.in_ok-names.names more c.in_ok-names.ensures)

pub returns : goal.returns
returns g c =
    let none : g.T.Words.goes (head c.loop-alloc.rest) ≡ false = cc in
    gathered_ends g.T.Words.goes g.T.Words.reading c.requires.shrinks c.requires.ends (gathered_at g.T.Words.goes g.T.Words.reading c.args.ahead) c.loop-alloc.out c.loop-alloc.rest c.loop-alloc.invariant none
