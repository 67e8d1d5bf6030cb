use Rattle.mem_model.proofs.Calls.{new_has_none}
use Rattle.memory_vectors.proofs.blocks.allocated.Goals as goal

pub allocate-requires : goal.allocate-requires
allocate-requires c = record { new = new_has_none c.new-memory.result c.args.name c.new-memory.ensures }
