use Rattle.mem_model.proofs.AccessTests as laws
use Rattle.mem_laws.proofs.memory_laws.allocate_goes.Goals as goal

pub returns : goal.returns
returns c = laws.allocate_goes
