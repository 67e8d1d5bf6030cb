use Rattle.std.proofs.Common.{◌≡◌}
use Rattle.ir_core.specs.Given.{looked_through, shape_of}
use Rattle.ir_names.proofs.addresses.shape.Given as goal

abbrev pub invariant-loop-left : goal.invariant-loop-left
invariant-loop-left l = looked_through l.left l.tables.types l.shape ≡ shape_of l.tables.types l.ty

abbrev pub decreases-loop-left : goal.decreases-loop-left
decreases-loop-left l = l.left
