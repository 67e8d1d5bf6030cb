use Rattle.mem_model.proofs.BlockLaws as laws
use Rattle.mem_laws.proofs.memory_laws.new_block.Goals as goal

pub returns : goal.returns
returns c = laws.new_block
