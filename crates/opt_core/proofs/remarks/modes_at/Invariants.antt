use Rattle.std.proofs.Common.{◌≡◌, map, take}
use Rattle.opt_core.specs.Optimised.{empty_mode}
use Rattle.opt_core.proofs.remarks.modes_at.Given as goal

abbrev pub invariant-loop-line : goal.invariant-loop-line
invariant-loop-line l = l.out ≡ map empty_mode (take l.line-index l.lines)
