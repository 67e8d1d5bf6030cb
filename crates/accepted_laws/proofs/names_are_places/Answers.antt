use Rattle.accepted_laws.proofs.Names.{names_are_places}
use Rattle.accepted_laws.proofs.names_are_places.Goals as goal

pub returns : goal.returns
returns c = names_are_places
