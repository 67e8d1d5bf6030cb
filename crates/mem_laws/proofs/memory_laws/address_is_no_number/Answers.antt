use Rattle.mem_model.proofs.PointerLaws as laws
use Rattle.mem_laws.proofs.memory_laws.address_is_no_number.Goals as goal

pub returns : goal.returns
returns c = laws.address_is_no_number
