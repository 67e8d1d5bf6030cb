use Rattle.formed_parts.proofs.Off.{off_is_formed}
use Rattle.formed_parts.proofs.off_is_formed.Goals as goal

pub returns : goal.returns
returns c = off_is_formed
