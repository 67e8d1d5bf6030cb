use Rattle.std.proofs.Common.{◌≡◌, ◌++◌, take}
use Rattle.std.specs.List.{flat_map}
use Rattle.ir_core.specs.Places.{inst_results}
use Rattle.ir_tables.specs.Names.{names_seen}
use Rattle.state_machine.proofs.names.add_results.Given as goal

abbrev pub invariant-loop-inst : goal.invariant-loop-inst
invariant-loop-inst l = names_seen l.names ≡ names_seen l.initial.names ++ flat_map inst_results (take l.inst-index l.insts)
