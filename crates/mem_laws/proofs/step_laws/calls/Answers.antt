use Rattle.mem_laws.proofs.StepLaws as steps
use Rattle.mem_laws.proofs.step_laws.calls.Goals as goal

pub returns-clause-begins : goal.returns-clause-begins
returns-clause-begins c = steps.call_begins

pub returns-clause-back : goal.returns-clause-back
returns-clause-back c = steps.return_goes_back

pub returns-clause-both : goal.returns-clause-both
returns-clause-both c = steps.call_returns

pub returns-clause-leaves : goal.returns-clause-leaves
returns-clause-leaves c = steps.return_leaves
