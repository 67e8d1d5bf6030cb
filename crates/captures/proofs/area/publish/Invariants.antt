use Rattle.std.proofs.Common.{◌≡◌, drop}
use Rattle.team_model.specs.Team.{published}
use Rattle.captures.specs.Published.{IsArea}
use Rattle.captures.proofs.area.publish.Given as goal

-- what is left to publish leads to the whole
abbrev pub invariant-loop-at : goal.invariant-loop-at
invariant-loop-at l = (published l.at (drop l.at l.words) l.memory ≡ published 0 l.words l.fn.memory) × IsArea l.memory
