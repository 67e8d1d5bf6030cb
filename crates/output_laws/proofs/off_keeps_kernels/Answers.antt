use Rattle.output_laws.proofs.OutputKernels.{off_keeps_kernels}
use Rattle.output_laws.proofs.off_keeps_kernels.Goals as goal

pub returns : goal.returns
returns c = off_keeps_kernels
