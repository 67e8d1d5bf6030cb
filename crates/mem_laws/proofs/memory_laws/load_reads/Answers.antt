use Rattle.mem_model.proofs.AccessTests as laws
use Rattle.mem_laws.proofs.memory_laws.load_reads.Goals as goal

pub returns : goal.returns
returns c = laws.load_reads
