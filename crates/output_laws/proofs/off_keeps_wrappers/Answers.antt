use Rattle.output_laws.proofs.OffWrappers.{off_keeps_wrappers}
use Rattle.output_laws.proofs.off_keeps_wrappers.Goals as goal

pub returns : goal.returns
returns c = off_keeps_wrappers
