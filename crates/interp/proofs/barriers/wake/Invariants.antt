use Rattle.std.proofs.Common.{◌≡◌}
use Rattle.team_model.specs.Team.{goes_again}
use Rattle.interp.proofs.Mapped.{mapped}
use Rattle.interp.proofs.barriers.wake.Given as goal

-- the threads before this one go on where they have waited
abbrev pub invariant-loop-at : goal.invariant-loop-at
invariant-loop-at l = l.stands ≡ mapped (goes_again l.kind) l.at l.fn.stands
