use Rattle.mem_model.proofs.AccessTests as tests
use Rattle.mem_laws.proofs.memory_laws.release_heap_only.Goals as goal

pub returns : goal.returns
returns c = tests.release_heap_only
