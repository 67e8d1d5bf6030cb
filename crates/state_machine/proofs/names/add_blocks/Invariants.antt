use Rattle.std.proofs.Common.{◌≡◌, ◌++◌, take}
use Rattle.std.specs.List.{flat_map}
use Rattle.ir_tables.specs.Names.{names_seen}
use Rattle.state_machine.specs.Fresh.{block_names}
use Rattle.state_machine.proofs.names.add_blocks.Given as goal

abbrev pub invariant-loop-block : goal.invariant-loop-block
invariant-loop-block l = names_seen l.names ≡ names_seen l.initial.names ++ flat_map block_names (take l.block-index l.blocks)
