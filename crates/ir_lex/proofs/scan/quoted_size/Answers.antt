use Rattle.std.proofs.Common.{sym}
use Rattle.ir_lex.proofs.Lines.{closed_size, open_size}
use Rattle.ir_lex.proofs.scan.quoted_size.Goals as goal

pub returns-in-Some-clause-size : goal.returns-in-Some-clause-size
returns-in-Some-clause-size c = sym (closed_size c.args.rest.now c.in-Some.size c.in-Some.ensures)

pub returns-in-None-clause-size : goal.returns-in-None-clause-size
returns-in-None-clause-size c = sym (open_size c.args.rest.now c.in-None.ensures)
