use Rattle.std.proofs.Common.{◌∙◌}
use Rattle.wrapper_shapes.proofs.WalkLaws.{read_is}
use Rattle.wrapper_shapes.proofs.walks.Walk.has_read.Goals as goal

pub returns : goal.returns
returns c = c.contains.ensures ∙ read_is c.args.self.now.read.keys c.args.place
