use Rattle.std.proofs.Common.{sym}
use Rattle.ir_lex.proofs.Lines.{run_at_end, run_at_byte}
use Rattle.ir_lex.proofs.gaps.line_run.Goals as goal

pub returns-in-Some-clause-run_is : goal.returns-in-Some-clause-run_is
returns-in-Some-clause-run_is c = sym (run_at_byte 10 c.args.text.now c.in-Some.size c.in-Some.ensures)

pub returns-in-None-clause-run_is : goal.returns-in-None-clause-run_is
returns-in-None-clause-run_is c = sym (run_at_end 10 c.args.text.now c.in-None.ensures)
