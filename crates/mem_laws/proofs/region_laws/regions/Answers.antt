use Rattle.mem_laws.proofs.RegionLaws as laws
use Rattle.mem_laws.proofs.region_laws.regions.Goals as goal

pub returns-clause-barrier : goal.returns-clause-barrier
returns-clause-barrier c = laws.barrier_outside

pub returns-clause-blocks : goal.returns-clause-blocks
returns-clause-blocks c = laws.region_blocks

pub returns-clause-back : goal.returns-clause-back
returns-clause-back c = laws.region_returns
