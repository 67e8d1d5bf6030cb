use Rattle.mem_laws.proofs.RegionLaws as laws
use Rattle.mem_laws.proofs.region_laws.formed_words.Goals as goal

pub returns-clause-width : goal.returns-clause-width
returns-clause-width c = laws.address_under_width

pub returns-clause-entry : goal.returns-clause-entry
returns-clause-entry c = laws.entry_traps

pub returns-clause-told : goal.returns-clause-told
returns-clause-told c = laws.fork_tells_words
