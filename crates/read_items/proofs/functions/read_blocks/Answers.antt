use Rattle.read_body.proofs.Laws.{block_shrinks}
use Rattle.read_items.proofs.functions.read_blocks.Goals as goal

pub read_many-requires-clause-shrinks : goal.read_many-requires-clause-shrinks
read_many-requires-clause-shrinks c = block_shrinks
