use Rattle.output_laws.proofs.OutputModules.{off_is_output}
use Rattle.output_laws.proofs.off_is_output.Goals as goal

pub returns : goal.returns
returns c = off_is_output
