use Rattle.formed_parts.proofs.Edits.{edits_keep_parts}
use Rattle.formed_parts.proofs.edits_keep_parts.Goals as goal

pub returns : goal.returns
returns c = edits_keep_parts
