use Rattle.accepted_laws.proofs.Sizes.{types_have_sizes}
use Rattle.accepted_laws.proofs.types_have_sizes.Goals as goal

pub returns : goal.returns
returns c = types_have_sizes
