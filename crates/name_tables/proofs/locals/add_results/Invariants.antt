use Rattle.std.proofs.Common.{◌≡◌, ◌++◌, take}
use Rattle.std.specs.List.{flat_map}
use Rattle.ir_core.specs.Given.{inst_names}
use Rattle.name_tables.specs.Kept.{all_seen, all_kept}
use Rattle.name_tables.proofs.locals.add_results.Given as goal

abbrev pub invariant-loop-inst : goal.invariant-loop-inst
invariant-loop-inst l = all_seen l.names ≡ all_seen l.initial.names ++ all_kept (flat_map inst_names (take l.inst-index l.insts))
