use Rattle.output_laws.proofs.Refused.{edits_keep_names}
use Rattle.output_laws.proofs.edits_keep_names.Goals as goal

pub returns : goal.returns
returns c = edits_keep_names
