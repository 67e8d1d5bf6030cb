use Rattle.std.proofs.Common.{◌≡◌, ◌++◌, take}
use Rattle.std.specs.List.{flat_map}
use Rattle.ir_core.specs.Wrappers.{block_callees}
use Rattle.ir_tables.specs.Names.{names_seen}
use Rattle.register_hops.proofs.regions.add_callees.Given as goal

abbrev pub invariant-loop-block : goal.invariant-loop-block
invariant-loop-block l = names_seen l.names ≡ names_seen l.initial.names ++ flat_map block_callees (take l.block-index l.block-items)
