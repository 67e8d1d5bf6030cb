use Rattle.mem_model.proofs.StoreLaws as laws
use Rattle.mem_laws.proofs.memory_laws.store_then_load.Goals as goal

pub returns : goal.returns
returns c = laws.store_then_load
