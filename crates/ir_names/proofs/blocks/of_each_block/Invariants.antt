use Rattle.std.proofs.Common.{◌≡◌, take}
use Rattle.std.specs.List.{flat_map}
use Rattle.ir_core.specs.Typing.{scope_of}
use Rattle.ir_core.specs.NameRefusals.{of_block, least}
use Rattle.ir_names.proofs.blocks.of_each_block.Given as goal

abbrev pub invariant-loop-block : goal.invariant-loop-block
invariant-loop-block l = l.found ≡ least (flat_map (of_block (scope_of l.body.0 l.body.1)) (take l.block-index l.blocks))
