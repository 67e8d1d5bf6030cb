use Rattle.std.proofs.Common.{refl}
use Rattle.ir_core.specs.Tokens.{text_limit}
use Rattle.ir_lex.proofs.limit.text_limit.Goals as goal

pub returns-clause-value : goal.returns-clause-value
unfolding text_limit
returns-clause-value c = refl
