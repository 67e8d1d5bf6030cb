use Rattle.read_body.proofs.Laws.{edge_shrinks}
use Rattle.read_body.proofs.values.read_phi.Goals as goal

pub read_rows-requires-clause-shrinks : goal.read_rows-requires-clause-shrinks
read_rows-requires-clause-shrinks c = edge_shrinks c.in_ok-ty.ty
