use Rattle.std.proofs.Common.{◌≡◌, length}
use Rattle.read_items.specs.Linked.{linked_at}
use Rattle.read_items.specs.Items.{item_goes, item_at, items_module_at}
use Rattle.read_items.specs.Joined.{module_behind}
use Rattle.read_items.proofs.items.read_items.Given as goal

abbrev pub invariant-loop-pending : goal.invariant-loop-pending
invariant-loop-pending l = items_module_at l.fn.ahead ≡ module_behind l.module (linked_at item_goes item_at l.pending) l.rest

abbrev pub decreases-loop-pending : goal.decreases-loop-pending
decreases-loop-pending l = length l.rest
