use Rattle.output_laws.proofs.InitCalls.{off_keeps_names}
use Rattle.output_laws.proofs.off_keeps_names.Goals as goal

pub returns : goal.returns
returns c = off_keeps_names
