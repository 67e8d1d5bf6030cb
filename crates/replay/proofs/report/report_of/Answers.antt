use Rattle.std.proofs.Common.{ap, ◌∙◌, map}
use Rattle.mem_model.specs.Launching.{shown_names}
use Rattle.replay.specs.Reports as spec
use Rattle.replay.specs.Reports.{shown}
use Rattle.replay.proofs.report.report_of.Goals as goal

pub returns : goal.returns
returns c =
    let l = c.args.l.now in
    let end_is = c.report_end.ensures in
    let stands = c.end.ensures in
    let memory_is = c.in_ok-memory.ensures in
    let shared_is = c.memory.ensures in
    λ out i. record {
      mode = c.args.mode;
      threads = l.threads;
      end = (end_is ∙ ap spec.report_end (stands out)) i;
      prints = c.args.team.shared.prints;
      memory = (memory_is ∙ ap (λ memory. map (shown memory) (shown_names c.args.m.now l)) (shared_is out)) i;
      schedule = c.args.schedule;
    }
