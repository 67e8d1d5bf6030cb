use Rattle.std.proofs.Common.{◌≡◌, length}
use Rattle.read_forms.specs.Read.{many_at, put_all}
use Rattle.read_forms.proofs.repeated.read_many.Given as goal

abbrev pub invariant-loop-alloc : goal.invariant-loop-alloc
invariant-loop-alloc g l = many_at g.T.Repeated.goes g.T.Part.reading l.fn.ahead ≡ put_all l.out (many_at g.T.Repeated.goes g.T.Part.reading l.rest)

abbrev pub decreases-loop-alloc : goal.decreases-loop-alloc
decreases-loop-alloc g l = length l.rest
