use Rattle.std.proofs.Common.{refl}
use Rattle.mem_model.specs.Launching.{steps_limit}
use Rattle.run_text.proofs.launch.steps_limit.Goals as goal

pub returns : goal.returns
unfolding steps_limit
returns c = refl
