use Rattle.mem_model.proofs.AccessTests as tests
use Rattle.mem_laws.proofs.memory_laws.allocate_large.Goals as goal

pub returns : goal.returns
returns c = tests.allocate_large
