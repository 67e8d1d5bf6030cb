use Rattle.read_ends.proofs.EndLaws.{next_attachment_shrinks}
use Rattle.read_ends.proofs.ends.skip_attachments.Goals as goal

pub skip_many-requires-clause-shrinks : goal.skip_many-requires-clause-shrinks
skip_many-requires-clause-shrinks c = next_attachment_shrinks
