use Rattle.std.proofs.Common.{◌≡◌, drop, slice_get}
use Rattle.std.specs.List.{flat_map}
use Rattle.team_model.specs.Team.{inst_modes}
use Rattle.interp.proofs.start.block_mode.Given as goal

-- no instruction before this one gives a mode
abbrev pub invariant-loop-inst : goal.invariant-loop-inst
invariant-loop-inst l = slice_get (flat_map inst_modes (drop l.inst-index l.insts)) 0 ≡ slice_get (flat_map inst_modes l.insts) 0
