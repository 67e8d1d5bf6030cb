use Rattle.std.proofs.Common.{◌∙◌, ap}
use Rattle.run_text.specs.ReportText.{report_text}
use Rattle.replay.specs.Reports.{end_status}
use Rattle.opt_core.proofs.replay_reply.reported.Goals as goal

pub returns : goal.returns
returns c = λ out. (c.end_status-status.ensures ∙ ap end_status (c.end.ensures out), c.in_ok-print_report.ensures ∙ ap (report_text c.args.m.now) (c.in_ok-report.ensures out), c.new.ensures)
