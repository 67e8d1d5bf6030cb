use Rattle.formed_parts.proofs.Joined.{formed_of_parts}
use Rattle.formed_parts.proofs.formed_of_parts.Goals as goal

pub returns : goal.returns
returns c = formed_of_parts
