use Rattle.output_laws.proofs.InitOperands.{off_refuses_inits}
use Rattle.output_laws.proofs.off_refuses_inits.Goals as goal

pub returns : goal.returns
returns c = off_refuses_inits
