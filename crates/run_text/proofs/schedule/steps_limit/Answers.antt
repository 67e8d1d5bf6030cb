use Rattle.std.proofs.Common.{refl}
use Rattle.mem_model.specs.Launching.{steps_limit}
use Rattle.run_text.proofs.schedule.steps_limit.Goals as goal

pub returns-clause-value : goal.returns-clause-value
unfolding steps_limit
returns-clause-value c = refl
