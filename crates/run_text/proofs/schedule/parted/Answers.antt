use Rattle.run_text.proofs.LineEnds.{line_parted, line_whole}
use Rattle.run_text.proofs.schedule.parted.Goals as goal

pub returns-in-Some : goal.returns-in-Some
returns-in-Some c = line_parted c.args.line.now c.in-Some.size c.in-Some.ensures

pub returns-in-None : goal.returns-in-None
returns-in-None c = line_whole c.args.line.now c.in-None.ensures
