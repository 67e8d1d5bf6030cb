use Rattle.output_laws.proofs.InitOperands.{off_switches_kernels}
use Rattle.output_laws.proofs.off_switches_kernels.Goals as goal

pub returns : goal.returns
returns c = off_switches_kernels
