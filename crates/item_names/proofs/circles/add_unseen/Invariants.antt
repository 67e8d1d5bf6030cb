use Rattle.std.proofs.Common.{◌≡◌, drop}
use Rattle.std.specs.List.{fold}
use Rattle.item_names.specs.Circles.{mark}
use Rattle.item_names.proofs.circles.add_unseen.Given as goal

-- with the rest the same is seen as with all
abbrev pub invariant-loop-place : goal.invariant-loop-place
invariant-loop-place l = fold mark (l.seen, l.front) (drop l.place-index l.places) ≡ fold mark (l.initial.seen, l.initial.front) l.places
