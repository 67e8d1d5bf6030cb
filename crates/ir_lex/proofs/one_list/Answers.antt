use Rattle.ir_lex.proofs.Whole.{one_lexing}
use Rattle.ir_lex.proofs.one_list.Goals as goal

pub returns : goal.returns
returns c = one_lexing
