use Rattle.std.proofs.Common.{refl}
use Rattle.mem_model.specs.Launching.{threads_limit}
use Rattle.run_text.proofs.launch.threads_limit.Goals as goal

pub returns : goal.returns
unfolding threads_limit
returns c = refl
