use Rattle.formed_laws.proofs.Reading.{read_is_formed}
use Rattle.formed_laws.proofs.read_is_formed.Goals as goal

pub returns : goal.returns
returns c = read_is_formed
