use Rattle.output_laws.proofs.OffRules.{off_keeps_limits}
use Rattle.output_laws.proofs.off_keeps_limits.Goals as goal

pub returns : goal.returns
returns c = off_keeps_limits
