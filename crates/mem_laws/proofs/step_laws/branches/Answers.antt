use Rattle.mem_laws.proofs.StepLaws as steps
use Rattle.mem_laws.proofs.step_laws.branches.Goals as goal

pub returns-clause-swap : goal.returns-clause-swap
returns-clause-swap c = steps.phis_swap

pub returns-clause-first : goal.returns-clause-first
returns-clause-first c = steps.switch_first

pub returns-clause-other : goal.returns-clause-other
returns-clause-other c = steps.switch_other
