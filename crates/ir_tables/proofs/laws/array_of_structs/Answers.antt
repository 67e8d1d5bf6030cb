use Rattle.ir_tables.proofs.Examples as examples
use Rattle.ir_tables.proofs.laws.array_of_structs.Goals as goal

pub returns : goal.returns
returns c = examples.array_of_structs
