use Rattle.ir_tables.proofs.Examples as examples
use Rattle.ir_tables.proofs.laws.no_such_field.Goals as goal

pub returns : goal.returns
returns c = examples.no_such_field
