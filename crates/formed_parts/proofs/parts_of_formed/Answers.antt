use Rattle.text_laws.proofs.Modules.{parts_of_formed}
use Rattle.formed_parts.proofs.parts_of_formed.Goals as goal

pub returns : goal.returns
returns c = parts_of_formed
