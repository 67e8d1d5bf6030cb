use Rattle.output_laws.proofs.OutputModules.{accepted_is_output}
use Rattle.output_laws.proofs.accepted_is_output.Goals as goal

pub returns : goal.returns
returns c = accepted_is_output
