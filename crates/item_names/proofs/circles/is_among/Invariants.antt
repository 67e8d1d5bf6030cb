use Rattle.std.proofs.Common.{◌≡◌, drop}
use Rattle.item_names.specs.Circles.{has}
use Rattle.item_names.proofs.circles.is_among.Given as goal

-- the answer for the rest is the answer for all
abbrev pub invariant-loop-place : goal.invariant-loop-place
invariant-loop-place l = has l.to (drop l.place-index l.places) ≡ has l.to l.places
