use Rattle.text_laws.proofs.Modules.{canonical_text_spells}
use Rattle.text_laws.proofs.canonical_text_spells.Goals as goal

pub returns : goal.returns
returns c = canonical_text_spells
