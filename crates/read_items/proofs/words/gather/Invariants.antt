use Rattle.std.proofs.Common.{◌≡◌, length}
use Rattle.read_forms.specs.Read.{put_all}
use Rattle.read_items.specs.Gathered.{gathered_at}
use Rattle.read_items.proofs.words.gather.Given as goal

abbrev pub invariant-loop-alloc : goal.invariant-loop-alloc
invariant-loop-alloc g l = gathered_at g.T.Words.goes g.T.Words.reading l.fn.ahead ≡ put_all l.out (gathered_at g.T.Words.goes g.T.Words.reading l.rest)

abbrev pub decreases-loop-alloc : goal.decreases-loop-alloc
decreases-loop-alloc g l = length l.rest
