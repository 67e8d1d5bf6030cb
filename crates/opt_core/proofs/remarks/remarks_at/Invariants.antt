use Rattle.std.proofs.Common.{◌≡◌, map, take}
use Rattle.ir_core.specs.Notes.{machine_removed}
use Rattle.opt_core.proofs.remarks.remarks_at.Given as goal

abbrev pub invariant-loop-line : goal.invariant-loop-line
invariant-loop-line l = l.out ≡ map machine_removed (take l.line-index l.lines)
