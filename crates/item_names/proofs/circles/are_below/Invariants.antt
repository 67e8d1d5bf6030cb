use Rattle.std.proofs.Common.{◌≡◌, drop}
use Rattle.item_names.specs.Circles.{are_below}
use Rattle.item_names.proofs.circles.are_below.Given as goal

-- the answer for the rest is the answer for all
abbrev pub invariant-loop-place : goal.invariant-loop-place
invariant-loop-place l = are_below l.ranks l.at (drop l.place-index l.places) ≡ are_below l.ranks l.at l.places
