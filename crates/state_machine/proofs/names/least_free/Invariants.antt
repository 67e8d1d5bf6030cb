use Rattle.std.proofs.Common.{◌≡◌, ◌+◌, ◌-◌, List, length}
use Rattle.ir_core.specs.Places.{Name}
use Rattle.state_machine.specs.Fresh.{least_free, IsTaken}
use Rattle.state_machine.proofs.names.least_free.Given as goal

abbrev pub invariant-loop-n : goal.invariant-loop-n
invariant-loop-n l = (names : List Name) → IsTaken names l.taken → least_free names l.stem 1 (length names) ≡ least_free names l.stem (l.n + 1) (length names - l.n)
