use Rattle.read_forms.proofs.Laws.{attribute_shrinks}
use Rattle.read_forms.proofs.attributes.skip_attributes.Goals as goal

pub skip_many-requires-clause-shrinks : goal.skip_many-requires-clause-shrinks
skip_many-requires-clause-shrinks c = attribute_shrinks
