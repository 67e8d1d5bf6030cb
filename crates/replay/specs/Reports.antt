-- What is reported of a replay.
use Rattle.std.specs.Prelude.{ℕ, List, map}
use Rattle.std.specs.FinMap as fin
use Rattle.ir_core.specs.declared.module.Module.{Module}
use Rattle.mem_model.specs.declared.launch.Launch.{Launch}
use Rattle.mem_model.specs.declared.launch.Shown.{Shown}
use Rattle.mem_model.specs.declared.memory.BlockName.{BlockName}
use Rattle.mem_model.specs.declared.step.End.{End}
use Rattle.mem_model.specs.declared.step.End.TheVariants.{Running, Ended, Stuck, Trapped}
use Rattle.mem_model.specs.Memory.{Memory, bytes_at, header_size}
use Rattle.mem_model.specs.Launching.{shown_names}
use Rattle.team_model.specs.declared.Pair.{Pair}
use Rattle.team_model.specs.Team.{Team, team_end}
use Rattle.run_text.specs.declared.report.RunMode.{RunMode}
use Rattle.run_text.specs.declared.report.ReportEnd.{ReportEnd}
use Rattle.run_text.specs.declared.report.ReportEnd.TheVariants.{Ended as EndedReport, Stuck as StuckReport, Trapped as TrappedReport, Unfinished}
use Rattle.run_text.specs.declared.report.Report.{Report}

abbrev pub report_end : End → ReportEnd
report_end Running = Unfinished
report_end Ended = EndedReport
report_end Stuck = StuckReport
report_end (Trapped thread line trap) = TrappedReport thread line trap

-- the status of a replay that comes to this end
abbrev pub end_status : End → ℕ
end_status Ended = 0
end_status (Trapped thread line trap) = 8
end_status Stuck = 9
end_status Running = 10

abbrev pub shown : Memory → BlockName → Shown
shown memory name = record { name = name; bytes = bytes_at memory name 0 (header_size (fin.get memory.blocks name)) }

-- the report of a team that has come to this state by a schedule; the module is the one that was read, and names what is shown
abbrev pub report_of : Module → Launch → RunMode → Team → List Pair → Report
report_of m l mode s pairs = record {
  mode = mode;
  threads = l.threads;
  end = report_end (team_end s);
  prints = s.shared.common.prints;
  memory = map (shown s.shared.common.memory) (shown_names m l);
  schedule = pairs;
}
