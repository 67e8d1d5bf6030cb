use Rattle.std.proofs.Common.{◌≡◌, drop}
use Rattle.run_text.specs.Calls.{block_calls, any_block}
use Rattle.run_text.proofs.kernels.any_block_calls_init.Given as goal

-- the answer for the rest is the answer for all
abbrev pub invariant-loop-block : goal.invariant-loop-block
invariant-loop-block l = any_block block_calls (drop l.block-index l.blocks) ≡ any_block block_calls l.blocks
