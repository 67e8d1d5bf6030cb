use Rattle.std.proofs.Common.{◌≡◌, ◌≤◌, length, drop}
use Rattle.ir_core.specs.NameRefusals.{least}
use Rattle.shapes.specs.KernelShape.{of_ends}
use Rattle.kernel_shapes.specs.Ends.{before_place}
use Rattle.kernel_shapes.proofs.ends.of_ends.Given as goal

abbrev pub invariant-loop-place : goal.invariant-loop-place
invariant-loop-place l = (l.found ≡ least (of_ends l.free (before_place l.insts l.place) (drop l.place l.insts))) × (l.place ≤ length l.insts)

abbrev pub decreases-loop-place : goal.decreases-loop-place
decreases-loop-place l = l.place
