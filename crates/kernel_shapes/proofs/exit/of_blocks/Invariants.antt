use Rattle.std.proofs.Common.{◌≡◌, take, option_map}
use Rattle.std.specs.List.{flat_map}
use Rattle.ir_core.specs.NameRefusals.{least}
use Rattle.shapes.specs.KernelShape.{of_block}
use Rattle.kernel_shapes.specs.Seen.{ways_seen}
use Rattle.kernel_shapes.proofs.exit.of_blocks.Given as goal

abbrev pub invariant-loop-block : goal.invariant-loop-block
invariant-loop-block l = l.found ≡ least (flat_map (of_block (option_map ways_seen l.ways)) (take l.block-index l.blocks))
