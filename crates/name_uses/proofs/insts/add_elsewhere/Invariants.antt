use Rattle.std.proofs.Common.{◌≡◌, ◌++◌, take}
use Rattle.std.specs.List.{flat_map}
use Rattle.ir_tables.specs.Names.{names_seen}
use Rattle.shapes.specs.Uses.{inst_names_elsewhere}
use Rattle.shapes.specs.Insts.{insts_seen}
use Rattle.name_uses.proofs.insts.add_elsewhere.Given as goal

abbrev pub invariant-loop-inst : goal.invariant-loop-inst
invariant-loop-inst l = names_seen l.names ≡ names_seen l.initial.names ++ flat_map inst_names_elsewhere (insts_seen (take l.inst-index l.insts))
