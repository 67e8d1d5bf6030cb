use Rattle.read_body.proofs.Laws.{case_shrinks}
use Rattle.read_body.proofs.last.read_cases.Goals as goal

pub read_many-requires-clause-shrinks : goal.read_many-requires-clause-shrinks
read_many-requires-clause-shrinks c = case_shrinks
