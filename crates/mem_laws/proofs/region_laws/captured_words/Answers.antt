use Rattle.mem_laws.proofs.RegionLaws as laws
use Rattle.mem_laws.proofs.region_laws.captured_words.Goals as goal

pub returns-clause-elsewhere : goal.returns-clause-elsewhere
returns-clause-elsewhere c = laws.not_stack_traps

pub returns-clause-none : goal.returns-clause-none
returns-clause-none c = laws.none_is_read

pub returns-clause-leak : goal.returns-clause-leak
returns-clause-leak c = laws.leak_before_later
