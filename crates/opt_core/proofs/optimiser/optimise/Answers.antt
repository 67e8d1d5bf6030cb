use Rattle.std.proofs.Common.{sym, subst, ap, ◌∙◌}
use Rattle.ir_core.specs.MachineOff.{machine_off}
use Rattle.out_modules.specs.Outputs.{IsOutput}
use Rattle.refine_laws.specs.Refines.{RefinesSource}
use Rattle.refine_laws.proofs.Refining.{machine_off_refines}
use Rattle.output_laws.proofs.OutputModules.{off_is_output}
use Rattle.opt_core.proofs.optimiser.optimise.Goals as goal

pub of-requires : goal.of-requires
of-requires c = subst IsOutput (sym (c.in_ok-out.ensures ∙ ap machine_off c.module-source.ensures.same)) (off_is_output c.args.m.now c.module-source.ensures.rules)

pub returns-clause-refines : goal.returns-clause-refines
returns-clause-refines c =
    λ form. subst (RefinesSource c.args.m.now) (sym (c.in_ok-of.ensures ∙ c.in_ok-out.ensures ∙ ap machine_off c.module-source.ensures.same)) (λ l fits. machine_off_refines c.args.m.now l form fits)
