-- Short texts, and what they spell.
use Rattle.std.specs.Prelude.{◌≡◌, ℕ, List, [], ◌∷◌, codes, Ok, Err}
use Rattle.ir_core.specs.declared.module.Module.{Module}
use Rattle.mem_model.specs.declared.memory.BlockName.TheVariants.{Arg}
use Rattle.mem_model.specs.declared.memory.Byte.TheVariants.{Num}
use Rattle.team_model.specs.declared.Pair.{Pair}
use Rattle.run_text.specs.declared.schedule.ScheduleFaultKind.TheVariants.{LineForm, ThreadRange}
use Rattle.run_text.specs.declared.report.RunMode.TheVariants.{Empty}
use Rattle.run_text.specs.declared.report.ReportEnd.TheVariants.{Ended}
use Rattle.run_text.specs.declared.report.Report.{Report}
use Rattle.run_text.specs.ScheduleText.{PairsOf, fault_at}
use Rattle.run_text.specs.ReportText.{report_text}

abbrev pub pair : ℕ → ℕ → Pair
pair thread count = record { thread = thread; count = count }

abbrev pub no_items : Module
no_items = record { prelude = []; types = []; globals = []; functions = []; tail = [] }

abbrev pub two_pairs : List Pair
two_pairs = pair 1 6 ∷ pair 0 4 ∷ []

-- the last line may lack its LF
abbrev pub ReadsPairs : Type 0
ReadsPairs = (PairsOf (codes "1 6\n0 4\n") 2 ≡ Ok two_pairs) × (PairsOf (codes "1 6\n0 4") 2 ≡ Ok two_pairs)

abbrev pub RefusesThread : Type 0
RefusesThread = PairsOf (codes "2 1\n") 2 ≡ Err (fault_at 1 ThreadRange)

-- no line is empty, no number has a needless zero, and a thread makes at least one step
abbrev pub RefusesForm : Type 0
RefusesForm =
    (PairsOf (codes "1 6\n\n2 1\n") 2 ≡ Err (fault_at 2 LineForm))
    × (PairsOf (codes "01 6\n") 2 ≡ Err (fault_at 1 LineForm))
    × (PairsOf (codes "1 0\n") 2 ≡ Err (fault_at 1 LineForm))

abbrev pub report : Report
report = record { mode = Empty; threads = 1; end = Ended; prints = []; memory = record { name = Arg 0; bytes = Num 7 ∷ Num 0 ∷ Num 0 ∷ Num 0 ∷ [] } ∷ []; schedule = two_pairs }

abbrev pub PrintsReport : Type 0
PrintsReport = report_text no_items report ≡ codes "mode none\nend ended\nmemory 0 07000000\nschedule 2\n1 6\n0 4\n"
