use Rattle.mem_model.proofs.StoreLaws as laws
use Rattle.mem_laws.proofs.memory_laws.store_keeps_blocks.Goals as goal

pub returns : goal.returns
returns c = laws.store_keeps_blocks
