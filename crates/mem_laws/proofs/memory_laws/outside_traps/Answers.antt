use Rattle.mem_model.proofs.AccessTests as tests
use Rattle.mem_laws.proofs.memory_laws.outside_traps.Goals as goal

pub returns : goal.returns
returns c = tests.outside_traps
