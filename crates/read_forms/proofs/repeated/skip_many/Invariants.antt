use Rattle.std.proofs.Common.{◌≡◌, length}
use Rattle.read_forms.specs.Read.{dropped_at}
use Rattle.read_forms.proofs.repeated.skip_many.Given as goal

abbrev pub invariant-loop-alloc : goal.invariant-loop-alloc
invariant-loop-alloc g l = dropped_at g.T.Repeated.goes g.T.Part.reading l.fn.ahead ≡ dropped_at g.T.Repeated.goes g.T.Part.reading l.rest

abbrev pub decreases-loop-alloc : goal.decreases-loop-alloc
decreases-loop-alloc g l = length l.rest
