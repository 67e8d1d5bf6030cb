-- What the stages of a replay answer.
use Rattle.std.specs.Prelude.{◌≡◌, ◌⊎◌, ℕ, List, [], Option, Ok}
use Rattle.ir_core.specs.declared.module.Module.{Module}
use Rattle.mem_model.specs.declared.launch.Launch.{Launch}
use Rattle.team_model.specs.declared.Pair.{Pair}
use Rattle.team_model.specs.Team.{Team, team_end}
use Rattle.run_text.specs.declared.report.RunMode.TheVariants.{Empty}
use Rattle.run_text.specs.LaunchText.{LaunchOf}
use Rattle.run_text.specs.ReportText.{report_text}
use Rattle.replay.specs.Reports.{report_of, end_status}
use Rattle.io_edge.specs.Outside.{Rose}
use Rattle.opt_core.specs.declared.replay_top.Paths.{Paths as PathData}
use Rattle.opt_core.specs.Answer.{OfText}
use Rattle.opt_core.specs.Replay.{Paths}

abbrev pub paths_seen : PathData → Paths
paths_seen p = record { «module» = p.module.now; launch = p.launch.now; schedule = p.schedule.now }

-- the state is reported, and its end gives the status
abbrev pub IsReported : Module → Launch → Team → List Pair → ℕ → List ℕ → List ℕ → Type 0
IsReported m l s pairs status out notes = (status ≡ end_status (team_end s)) × (out ≡ report_text m (report_of m l Empty s pairs)) × (notes ≡ [])

abbrev pub SpellsLaunch : Module → List ℕ → Type 0
SpellsLaunch m text = (l : Launch) × (LaunchOf m text ≡ Ok l)

-- the count of the launch's file has risen; or that of the schedule's file, and the launch wasn't refused
abbrev pub HasRisenBehind : Module → (List ℕ → Option (List ℕ)) → Paths → (List ℕ → ℕ) → (List ℕ → ℕ) → Type 0
HasRisenBehind m held p before after =
    Rose (before p.launch) (after p.launch)
    ⊎ (OfText (held p.launch) (SpellsLaunch m) × Rose (before p.schedule) (after p.schedule))
