use Rattle.std.proofs.Common.{◌≡◌, drop, slice_get}
use Rattle.std.specs.List.{flat_map}
use Rattle.team_model.specs.Team.{block_modes}
use Rattle.interp.proofs.start.first_mode.Given as goal

-- no block before this one gives a mode
abbrev pub invariant-loop-block : goal.invariant-loop-block
invariant-loop-block l = slice_get (flat_map block_modes (drop l.block-index l.blocks)) 0 ≡ slice_get (flat_map block_modes l.blocks) 0
