use Rattle.mem_model.proofs.BlockLaws as laws
use Rattle.mem_laws.proofs.memory_laws.release_apart.Goals as goal

pub returns : goal.returns
returns c = laws.release_apart
