use Rattle.output_laws.proofs.OutputKernels.{output_kernels}
use Rattle.output_laws.proofs.output_kernels.Goals as goal

pub returns : goal.returns
returns c = output_kernels
