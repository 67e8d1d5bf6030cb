use Rattle.std.proofs.Common.{refl}
use Rattle.mem_model.specs.Memory.{block_limit}
use Rattle.run_text.proofs.arguments.block_limit.Goals as goal

pub returns-clause-value : goal.returns-clause-value
unfolding block_limit
returns-clause-value c = refl
