use Rattle.mem_model.proofs.AccessTests as laws
use Rattle.mem_laws.proofs.memory_laws.release_goes.Goals as goal

pub returns : goal.returns
returns c = laws.release_goes
