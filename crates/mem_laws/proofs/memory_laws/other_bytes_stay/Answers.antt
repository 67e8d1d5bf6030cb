use Rattle.mem_model.proofs.StoreLaws as laws
use Rattle.mem_laws.proofs.memory_laws.other_bytes_stay.Goals as goal

pub returns : goal.returns
returns c = laws.other_bytes_stay
