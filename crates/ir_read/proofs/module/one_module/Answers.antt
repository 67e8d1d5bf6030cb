use Rattle.ir_read.proofs.Texts.{one_text}
use Rattle.ir_read.proofs.module.one_module.Goals as goal

pub returns : goal.returns
returns c = one_text
