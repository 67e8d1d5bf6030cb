use Rattle.std.proofs.Common.{◌≡◌, ◌++◌, take}
use Rattle.std.specs.List.{flat_map}
use Rattle.ir_core.specs.Places.{block_results}
use Rattle.ir_tables.specs.Names.{names_seen}
use Rattle.ir_tables.proofs.names.add_block_results.Given as goal

abbrev pub invariant-loop-block : goal.invariant-loop-block
invariant-loop-block l = names_seen l.names ≡ names_seen l.initial.names ++ flat_map block_results (take l.block-index l.blocks)
