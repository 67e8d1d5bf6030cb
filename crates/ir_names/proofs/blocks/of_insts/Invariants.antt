use Rattle.std.proofs.Common.{◌≡◌, drop, true}
use Rattle.ir_core.specs.Typing.{scope_of}
use Rattle.ir_core.specs.NameRefusals.{of_insts, least}
use Rattle.name_tables.specs.Least.{or_first}
use Rattle.ir_names.proofs.blocks.of_insts.Given as goal

-- what is found, or what is refused of the rest, is what is refused of all
abbrev pub invariant-loop-inst : goal.invariant-loop-inst
invariant-loop-inst l = or_first l.found (least (of_insts (scope_of l.body.0 l.body.1) l.block l.only_phis (drop l.inst-index l.insts))) ≡ least (of_insts (scope_of l.body.0 l.body.1) l.block true l.insts)
