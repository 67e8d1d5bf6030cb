use Rattle.mem_model.proofs.Puts.{not_counted, tree_put}
use Rattle.mem_model.proofs.blocks.Blocks.insert.Goals as goal

pub returns-in-Ok : goal.returns-in-Ok
returns-in-Ok c = tree_put c.args.self.now c.insert-in-Stack.new.self c.args.name c.args.block (not_counted c.args.name c.in-Stack.is) c.in-Ok.ensures.updates.0
