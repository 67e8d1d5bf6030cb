use Rattle.mem_model.proofs.AccessTests as tests
use Rattle.mem_laws.proofs.memory_laws.leak_traps.Goals as goal

pub returns : goal.returns
returns c = tests.leak_traps
