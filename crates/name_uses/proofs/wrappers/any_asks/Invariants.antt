use Rattle.std.proofs.Common.{◌≡◌, drop}
use Rattle.std.specs.List.{flat_map}
use Rattle.ir_core.specs.Wrappers.{is_in, get_shared_variables, inst_callees}
use Rattle.name_uses.proofs.wrappers.any_asks.Given as goal

abbrev pub invariant-loop-inst : goal.invariant-loop-inst
invariant-loop-inst l = is_in (flat_map inst_callees (drop l.inst-index l.insts)) get_shared_variables ≡ is_in (flat_map inst_callees l.insts) get_shared_variables
