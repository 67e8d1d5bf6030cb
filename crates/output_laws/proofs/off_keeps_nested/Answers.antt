use Rattle.output_laws.proofs.OffPaths.{off_keeps_nested}
use Rattle.output_laws.proofs.off_keeps_nested.Goals as goal

pub returns : goal.returns
returns c = off_keeps_nested
