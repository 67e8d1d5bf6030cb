use Rattle.std.proofs.Common.{◌≡◌, drop}
use Rattle.item_names.specs.Circles.{descends_from}
use Rattle.item_names.proofs.circles.is_descending.Given as goal

-- the answer for the rest is the answer for all
abbrev pub invariant-loop-at : goal.invariant-loop-at
invariant-loop-at l = descends_from l.at (drop l.at l.parts) l.ranks ≡ descends_from 0 l.parts l.ranks
