use Rattle.std.proofs.Common.{◌∙◌}
use Rattle.mem_model.proofs.Puts.{not_counted, tree_has}
use Rattle.mem_model.proofs.blocks.Blocks.get.Goals as goal

pub returns-in-Stack : goal.returns-in-Stack
returns-in-Stack c = c.get-in-Stack.ensures.value ∙ tree_has c.args.self.now c.args.name (not_counted c.args.name c.in-Stack.is)
