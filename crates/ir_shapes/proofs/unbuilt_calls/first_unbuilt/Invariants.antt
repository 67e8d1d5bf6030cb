use Rattle.std.proofs.Common.{◌≡◌, drop, find}
use Rattle.std.specs.List.{flat_map}
use Rattle.shapes.specs.Facts.{insts_of}
use Rattle.shapes.specs.Refusals.{is_unbuilt}
use Rattle.ir_shapes.proofs.unbuilt_calls.first_unbuilt.Given as goal

abbrev pub invariant-loop-f : goal.invariant-loop-f
invariant-loop-f l = find is_unbuilt (flat_map insts_of (drop l.f-index l.m.functions)) ≡ find is_unbuilt (flat_map insts_of l.m.functions)
