use Rattle.run_text.proofs.LineEnds.{line_ended, line_last}
use Rattle.run_text.proofs.lines.first_line.Goals as goal

pub returns-in-Some-clause-lines : goal.returns-in-Some-clause-lines
returns-in-Some-clause-lines c = line_ended c.args.text.now c.in-Some.size c.in-Some.ensures

pub returns-in-None-clause-lines : goal.returns-in-None-clause-lines
returns-in-None-clause-lines c = line_last c.args.text.now c.requires c.in-None.ensures
