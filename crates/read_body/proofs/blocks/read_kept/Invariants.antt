use Rattle.std.proofs.Common.{◌≡◌, length}
use Rattle.read_forms.specs.Read.{put_all}
use Rattle.read_body.specs.Body.{kept_at}
use Rattle.read_body.proofs.blocks.read_kept.Given as goal

abbrev pub invariant-loop-alloc : goal.invariant-loop-alloc
invariant-loop-alloc l = kept_at l.fn.ahead ≡ put_all l.out (kept_at l.rest)

abbrev pub decreases-loop-alloc : goal.decreases-loop-alloc
decreases-loop-alloc l = length l.rest
