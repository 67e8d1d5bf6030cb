use Rattle.mem_laws.proofs.StepLaws as steps
use Rattle.mem_laws.proofs.step_laws.atomic_changes.Goals as goal

pub returns-clause-one : goal.returns-clause-one
returns-clause-one c = steps.update_in_one

pub returns-clause-constant : goal.returns-clause-constant
returns-clause-constant c = steps.update_of_constant
