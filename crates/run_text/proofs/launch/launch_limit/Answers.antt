use Rattle.std.proofs.Common.{refl}
use Rattle.run_text.specs.LaunchText.{launch_limit}
use Rattle.run_text.proofs.launch.launch_limit.Goals as goal

pub returns-clause-value : goal.returns-clause-value
unfolding launch_limit
returns-clause-value c = refl
