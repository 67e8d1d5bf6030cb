use Rattle.ir_tables.proofs.Examples as examples
use Rattle.ir_tables.proofs.laws.byte_and_word.Goals as goal

pub returns : goal.returns
returns c = examples.byte_and_word
