use Rattle.name_tables.proofs.RefusalLaws.{in_any_order}
use Rattle.name_tables.proofs.laws.least_in_any_order.Goals as goal

pub returns : goal.returns
returns c = in_any_order
