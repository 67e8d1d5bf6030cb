use Rattle.std.proofs.Common.{◌≡◌, take}
use Rattle.ir_core.proofs.copy.ListCopies.copy.Given as goal

-- the copies so far are of the items so far
abbrev pub invariant-loop-item : goal.invariant-loop-item
invariant-loop-item g l = l.out ≡ take l.item-index l.item-items
