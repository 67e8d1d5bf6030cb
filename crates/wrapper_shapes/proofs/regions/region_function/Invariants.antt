use Rattle.std.proofs.Common.{◌≡◌, drop}
use Rattle.std.specs.List.{flat_map}
use Rattle.ir_core.specs.Wrappers.{defined, first_of, block_callees}
use Rattle.wrapper_shapes.proofs.regions.region_function.Given as goal

abbrev pub invariant-loop-block : goal.invariant-loop-block
invariant-loop-block l = first_of (flat_map (defined l.m.functions) (flat_map block_callees (drop l.block-index l.f.blocks))) ≡ first_of (flat_map (defined l.m.functions) (flat_map block_callees l.f.blocks))
