use Rattle.std.proofs.Common.{ap, ◌∙◌}
use Rattle.run_text.specs.Calls.{block_calls, any_block}
use Rattle.run_text.proofs.Calls.{any_block_is}
use Rattle.run_text.proofs.kernels.is_kernel.Goals as goal

pub returns : goal.returns
returns c = c.any_block_calls_init.ensures ∙ ap (any_block block_calls) c.as_slice.ensures ∙ any_block_is c.args.f.now.blocks
