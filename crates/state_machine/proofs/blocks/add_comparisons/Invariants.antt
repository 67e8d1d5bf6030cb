use Rattle.std.proofs.Common.{◌≡◌, ◌++◌, List, length, take}
use Rattle.ir_core.specs.Places.{Name}
use Rattle.state_machine.specs.Fresh.{IsTaken}
use Rattle.state_machine.specs.Machine.{comparison}
use Rattle.state_machine.specs.Numbered.{flat_from}
use Rattle.state_machine.proofs.blocks.add_comparisons.Given as goal

abbrev pub invariant-loop-n : goal.invariant-loop-n
invariant-loop-n l = (all : List Name) → IsTaken all l.taken → l.blocks ≡ l.initial.blocks ++ flat_from (comparison l.machine.line all l.names l.machine.thread (length l.machine.wrappers)) 0 (take l.n l.machine.wrappers)
