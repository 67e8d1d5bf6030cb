use Rattle.std.proofs.Common.{◌∙◌}
use Rattle.mem_model.proofs.RowLaws.{got}
use Rattle.mem_model.proofs.shared.Memory.contains.Goals as goal

pub returns : goal.returns
returns c = c.is_some.ensures ∙ got c.get.result c.self.inside.blocks c.args.name _ c.get.ensures c.self.view_is
