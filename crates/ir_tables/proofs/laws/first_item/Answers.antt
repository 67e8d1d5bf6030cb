use Rattle.ir_tables.proofs.Examples as examples
use Rattle.ir_tables.proofs.laws.first_item.Goals as goal

pub returns : goal.returns
returns c = examples.first_item
