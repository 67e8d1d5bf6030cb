use Rattle.std.proofs.Common.{sym, ◌∙◌}
use Rattle.ir_tables.proofs.Sizes.{kept_some, kept_none}
use Rattle.ir_tables.proofs.indexed.Indexed.laid.Goals as goal

pub returns-in-None : goal.returns-in-None
returns-in-None c = rw c.empty.ensures (kept_none c.args.self.now.types c.named.result c.named.ensures c.args.ty.now (sym c.in-None.is ∙ c.laid_of.ensures))

pub returns-in-Some : goal.returns-in-Some
returns-in-Some c = kept_some c.args.self.now.types c.named.result c.named.ensures c.args.ty.now c.in-Some.laid (sym c.in-Some.is ∙ c.laid_of.ensures)
