use Rattle.mem_model.proofs.PointerLaws as laws
use Rattle.mem_laws.proofs.memory_laws.tells_pointers.Goals as goal

pub returns : goal.returns
returns c = laws.tells_pointers
