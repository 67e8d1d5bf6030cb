use Rattle.mem_laws.proofs.StepLaws as steps
use Rattle.mem_laws.proofs.step_laws.stack_blocks.Goals as goal

pub returns-clause-made : goal.returns-clause-made
returns-clause-made c = steps.alloca_makes

pub returns-clause-gone : goal.returns-clause-gone
returns-clause-gone c = steps.alloca_ends

pub returns-clause-first : goal.returns-clause-first
returns-clause-first c = steps.first_thread_is_new

pub returns-clause-new : goal.returns-clause-new
returns-clause-new c = steps.names_are_new
