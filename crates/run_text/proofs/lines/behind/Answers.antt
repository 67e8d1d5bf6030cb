use Rattle.run_text.proofs.LineEnds.{behind_found}
use Rattle.run_text.proofs.lines.behind.Goals as goal

pub returns : goal.returns
returns c = behind_found (λ s. s.now) c.args.front.now c.args.line.now c.strip_prefix.result c.strip_prefix.ensures.cases
