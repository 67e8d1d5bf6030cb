use Rattle.std.proofs.Common.{◌≡◌, map, take}
use Rattle.ir_core.specs.Wrappers.{region_function}
use Rattle.wrapper_shapes.specs.Seen.{regions_seen}
use Rattle.wrapper_shapes.proofs.regions.region_functions.Given as goal

abbrev pub invariant-loop-f : goal.invariant-loop-f
invariant-loop-f l = regions_seen l.regions ≡ map (region_function l.m) (take l.f-index l.m.functions)
