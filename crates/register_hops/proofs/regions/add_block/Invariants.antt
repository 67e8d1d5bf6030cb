use Rattle.std.proofs.Common.{◌≡◌, ◌++◌, take}
use Rattle.std.specs.List.{flat_map}
use Rattle.ir_core.specs.Wrappers.{inst_callees}
use Rattle.ir_tables.specs.Names.{names_seen}
use Rattle.register_hops.proofs.regions.add_block.Given as goal

abbrev pub invariant-loop-inst : goal.invariant-loop-inst
invariant-loop-inst l = names_seen l.names ≡ names_seen l.initial.names ++ flat_map inst_callees (take l.inst-index l.inst-items)
