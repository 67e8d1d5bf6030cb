use Rattle.read_ends.proofs.EndLaws.{trailer_shrinks}
use Rattle.read_ends.proofs.ends.skip_trailers.Goals as goal

pub skip_many-requires-clause-shrinks : goal.skip_many-requires-clause-shrinks
skip_many-requires-clause-shrinks c = trailer_shrinks
