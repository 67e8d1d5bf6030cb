use Rattle.item_names.proofs.Ways.{Stands}
use Rattle.item_names.proofs.circles.is_reached.Given as goal

abbrev pub invariant-loop-left : goal.invariant-loop-left
invariant-loop-left l = Stands l.parts l.to l.from l.seen l.front l.left

abbrev pub decreases-loop-left : goal.decreases-loop-left
decreases-loop-left l = l.left
