use Rattle.ir_tables.proofs.Examples as examples
use Rattle.ir_tables.proofs.laws.four_numbers_and_pointer.Goals as goal

pub returns : goal.returns
returns c = examples.four_numbers_and_pointer
