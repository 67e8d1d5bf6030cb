use Rattle.output_laws.proofs.NumberFlags.{module_flagged}
use Rattle.output_laws.proofs.OffOpenings.{kernel_ways_off}
use Rattle.output_laws.proofs.OffKernels.{heading_off, exec_mode_rules_off, spmd_inputs_off, exit_off, block_ends_off}
use Rattle.output_laws.proofs.off_keeps_kernel_parts.Goals as goal

pub returns-clause-heading : goal.returns-clause-heading
returns-clause-heading c = heading_off

pub returns-clause-mode_rules : goal.returns-clause-mode_rules
returns-clause-mode_rules c m e g = exec_mode_rules_off m (module_flagged m e) g

pub returns-clause-spmd : goal.returns-clause-spmd
returns-clause-spmd c = spmd_inputs_off

pub returns-clause-ways : goal.returns-clause-ways
returns-clause-ways c = kernel_ways_off

pub returns-clause-exit : goal.returns-clause-exit
returns-clause-exit c = exit_off

pub returns-clause-ends : goal.returns-clause-ends
returns-clause-ends c = block_ends_off
