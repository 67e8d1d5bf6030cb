use Rattle.ir_tables.proofs.Examples as examples
use Rattle.ir_tables.proofs.laws.contains_itself.Goals as goal

pub returns : goal.returns
returns c = examples.contains_itself
