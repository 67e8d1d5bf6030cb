-- A module of which nothing is refused is one that the optimiser may give, and so is the one with its unused state machine switched off.
use Rattle.std.proofs.Common.{◌≡◌, [], ◌++◌, inr, ◌∙◌}
use Rattle.ir_core.specs.declared.module.Module.{Module}
use Rattle.ir_core.specs.MachineOff.{machine_off}
use Rattle.shapes.specs.KernelShape.{kernel_refusals}
use Rattle.shapes.specs.Wrappers.{wrapper_refusals}
use Rattle.shapes.specs.Clauses.{clause_refusals}
use Rattle.shapes.specs.Limits.{limit_refusals}
use Rattle.accepted_laws.proofs.Nothing.{front_none, back_none}
use Rattle.formed_parts.proofs.Off.{off_is_formed}
use Rattle.checked_modules.specs.Checked.{HasNoRefusal}
use Rattle.out_modules.specs.Outputs.{IsOutput}
use Rattle.checked_modules.proofs.Accepted.{no_refusals}
use Rattle.output_laws.proofs.InitCalls.{off_keeps_names}
use Rattle.output_laws.proofs.OffPaths.{off_keeps_nested}
use Rattle.output_laws.proofs.OffRules.{off_keeps_clauses, off_keeps_limits}
use Rattle.output_laws.proofs.OffWrappers.{off_keeps_wrappers}
use Rattle.output_laws.proofs.OutputKernels.{output_kernels, off_keeps_kernels}

-- ---- nothing is refused of each of the parts of its shapes

module _ (m : Module) (h : HasNoRefusal m) where
  first_three_refuse_nothing : kernel_refusals m ++ wrapper_refusals m ++ clause_refusals m ≡ []
  first_three_refuse_nothing = front_none (kernel_refusals m ++ wrapper_refusals m ++ clause_refusals m) (limit_refusals m) (no_refusals m h.shapes)

  no_kernel_refusal : kernel_refusals m ≡ []
  no_kernel_refusal = front_none (kernel_refusals m) (wrapper_refusals m) (front_none (kernel_refusals m ++ wrapper_refusals m) (clause_refusals m) first_three_refuse_nothing)

  no_wrapper_refusal : wrapper_refusals m ≡ []
  no_wrapper_refusal = back_none (kernel_refusals m) (wrapper_refusals m) (front_none (kernel_refusals m ++ wrapper_refusals m) (clause_refusals m) first_three_refuse_nothing)

  no_clause_refusal : clause_refusals m ≡ []
  no_clause_refusal = back_none (kernel_refusals m ++ wrapper_refusals m) (clause_refusals m) first_three_refuse_nothing

  no_limit_refusal : limit_refusals m ≡ []
  no_limit_refusal = back_none (kernel_refusals m ++ wrapper_refusals m ++ clause_refusals m) (limit_refusals m) (no_refusals m h.shapes)

-- ---- the module as it was taken, and with its machine off

pub accepted_is_output : (m : Module) → HasNoRefusal m → IsOutput m
accepted_is_output m h = record {
  formed = h.formed;
  names = h.names;
  kernels = output_kernels m (no_kernel_refusal m h);
  wrappers = no_wrapper_refusal m h;
  clauses = no_clause_refusal m h;
  limits = no_limit_refusal m h;
  nested = λ r nested. h.shapes r (inr nested);
}

pub off_is_output : (m : Module) → HasNoRefusal m → IsOutput (machine_off m)
off_is_output m h = record {
  formed = off_is_formed m h.formed;
  names = off_keeps_names m h.names;
  kernels = off_keeps_kernels m (no_kernel_refusal m h);
  wrappers = off_keeps_wrappers m (no_kernel_refusal m h) ∙ no_wrapper_refusal m h;
  clauses = off_keeps_clauses m ∙ no_clause_refusal m h;
  limits = off_keeps_limits m ∙ no_limit_refusal m h;
  nested = λ r nested. h.shapes r (inr ((off_keeps_nested m r).0 nested));
}
