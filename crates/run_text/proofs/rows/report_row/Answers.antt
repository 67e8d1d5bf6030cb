use Rattle.run_text.proofs.ShortTexts.{prints_report}
use Rattle.run_text.proofs.rows.report_row.Goals as goal

pub returns : goal.returns
returns c = prints_report
