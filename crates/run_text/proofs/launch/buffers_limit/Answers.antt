use Rattle.std.proofs.Common.{refl}
use Rattle.mem_model.specs.Launching.{buffers_limit}
use Rattle.run_text.proofs.launch.buffers_limit.Goals as goal

pub returns : goal.returns
unfolding buffers_limit
returns c = refl
