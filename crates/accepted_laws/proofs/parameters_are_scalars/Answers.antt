use Rattle.accepted_laws.proofs.Few.{parameters_are_scalars}
use Rattle.accepted_laws.proofs.parameters_are_scalars.Goals as goal

pub returns : goal.returns
returns c = parameters_are_scalars
