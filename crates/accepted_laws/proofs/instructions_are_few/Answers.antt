use Rattle.accepted_laws.proofs.Few.{instructions_are_few}
use Rattle.accepted_laws.proofs.instructions_are_few.Goals as goal

pub returns : goal.returns
returns c = instructions_are_few
