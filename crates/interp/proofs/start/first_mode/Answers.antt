use Rattle.std.proofs.Common.{rules}
use Rattle.team_model.specs.Team.{block_modes}
use Rattle.interp.proofs.Started.{mode_here, mode_later}
use Rattle.interp.proofs.start.first_mode.Goals as goal

pub returns-in-Some : goal.returns-in-Some
returns-in-Some c = mode_here block_modes c.args.blocks.now c.loop-block.block-index c.block-item.result c.in-Some.mode _ (search rules) c.block-item.is (search rules) c.loop-block.invariant

pub loop-block-preserved : goal.loop-block-preserved
loop-block-preserved c = mode_later block_modes c.args.blocks.now c.loop-block.block-index c.block-item.result _ (search rules) c.block-item.is (search rules) c.loop-block.invariant
