use Rattle.mem_model.proofs.PointerLaws as laws
use Rattle.mem_laws.proofs.memory_laws.load_fits.Goals as goal

pub returns : goal.returns
returns c = laws.load_fits
