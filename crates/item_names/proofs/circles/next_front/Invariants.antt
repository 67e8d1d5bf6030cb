use Rattle.std.proofs.Common.{◌≡◌, [], drop}
use Rattle.std.specs.List.{fold, flat_map}
use Rattle.item_names.specs.Circles.{mark, parts_at}
use Rattle.item_names.proofs.circles.next_front.Given as goal

-- with the rest the same is seen as with all
abbrev pub invariant-loop-place : goal.invariant-loop-place
invariant-loop-place l = fold mark (l.seen, l.next) (flat_map (parts_at l.parts) (drop l.place-index l.front)) ≡ fold mark (l.initial.seen, []) (flat_map (parts_at l.parts) l.front)
