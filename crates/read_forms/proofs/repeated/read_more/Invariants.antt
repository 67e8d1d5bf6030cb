use Rattle.std.proofs.Common.{◌≡◌, length}
use Rattle.read_forms.specs.Read.{more_at}
use Rattle.read_forms.proofs.repeated.read_more.Given as goal

abbrev pub invariant-loop-alloc : goal.invariant-loop-alloc
invariant-loop-alloc g l = more_at g.T.Part.reading l.fn.before l.fn.ahead ≡ more_at g.T.Part.reading l.out l.rest

abbrev pub decreases-loop-alloc : goal.decreases-loop-alloc
decreases-loop-alloc g l = length l.rest
