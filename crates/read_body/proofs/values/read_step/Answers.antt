use Rattle.read_forms.proofs.Laws.{typed_shrinks}
use Rattle.read_body.proofs.values.read_step.Goals as goal

pub read_rows-requires-clause-shrinks : goal.read_rows-requires-clause-shrinks
read_rows-requires-clause-shrinks c = typed_shrinks
