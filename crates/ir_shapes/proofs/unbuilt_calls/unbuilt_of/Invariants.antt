use Rattle.std.proofs.Common.{◌≡◌, drop, find}
use Rattle.std.specs.List.{flat_map}
use Rattle.shapes.specs.Insts.{block_insts}
use Rattle.shapes.specs.Refusals.{is_unbuilt}
use Rattle.ir_shapes.proofs.unbuilt_calls.unbuilt_of.Given as goal

abbrev pub invariant-loop-block : goal.invariant-loop-block
invariant-loop-block l = find is_unbuilt (flat_map block_insts (drop l.block-index l.f.blocks)) ≡ find is_unbuilt (flat_map block_insts l.f.blocks)
