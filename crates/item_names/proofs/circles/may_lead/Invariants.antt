use Rattle.std.proofs.Common.{◌≡◌, drop}
use Rattle.item_names.specs.Circles.{may_lead, parts_at}
use Rattle.item_names.proofs.circles.may_lead.Given as goal

-- the answer for the rest is the answer for all
abbrev pub invariant-loop-place : goal.invariant-loop-place
invariant-loop-place l = may_lead l.ranks l.at (drop l.place-index l.place-items) ≡ may_lead l.ranks l.at (parts_at l.parts l.at)
