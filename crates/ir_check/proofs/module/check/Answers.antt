use Rattle.std.proofs.Common.{sym, subst, ◌∙◌}
use Rattle.ir_core.specs.Formed.{Formed}
use Rattle.ir_core.specs.NameRefusals.{name_refusals}
use Rattle.ir_check.proofs.Least.{none_told}
use Rattle.ir_check.proofs.module.check.Goals as goal

pub with_shapes-requires-clause-formed : goal.with_shapes-requires-clause-formed
with_shapes-requires-clause-formed c = subst Formed (sym c.in_ok-m.ensures) c.requires

pub with_shapes-requires-clause-names : goal.with_shapes-requires-clause-names
with_shapes-requires-clause-names c = none_told (name_refusals c.in_ok-m.m) (sym c.in_ok-refusal.ensures ∙ c.in-None.is)
