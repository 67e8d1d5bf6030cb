use Rattle.std.proofs.Common.{◌+◌, ◌-◌, length}
use Rattle.mem_model.specs.Rows.{SameSlots}
use Rattle.mem_model.proofs.blocks.Row.reach.Given as goal

abbrev pub invariant-loop-self : goal.invariant-loop-self
invariant-loop-self l = SameSlots l.initial.self.slots.items l.self.slots.items

abbrev pub decreases-loop-self : goal.decreases-loop-self
decreases-loop-self l = l.number + 1 - length l.self.slots.items
