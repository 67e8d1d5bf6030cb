use Rattle.ir_tables.proofs.Examples as examples
use Rattle.ir_tables.proofs.laws.one_back.Goals as goal

pub returns : goal.returns
returns c = examples.one_back
