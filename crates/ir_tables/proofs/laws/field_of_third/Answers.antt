use Rattle.ir_tables.proofs.Examples as examples
use Rattle.ir_tables.proofs.laws.field_of_third.Goals as goal

pub returns : goal.returns
returns c = examples.field_of_third
