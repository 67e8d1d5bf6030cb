-- What the program answers to the words of a replay: it makes the steps of a schedule on the team of the optimised module.
use Rattle.std.specs.Prelude.{◌≡◌, ◌⊎◌, ℕ, List, [], ◌∷◌, length, codes, Option, Some, None, Result, Ok, Err, if◌then◌else◌}
use Rattle.std.specs.Str.{bytes_eq}
use Rattle.ir_core.specs.declared.module.Module.{Module}
use Rattle.ir_core.specs.MachineOff.{machine_off}
use Rattle.mem_model.specs.declared.launch.Launch.{Launch}
use Rattle.mem_model.specs.Launching.{Fits}
use Rattle.team_model.specs.declared.Pair.{Pair}
use Rattle.team_model.specs.Team.{Team, team_start, team_end, TeamRun, Expand}
use Rattle.run_text.specs.declared.launch.LaunchFault.{LaunchFault}
use Rattle.run_text.specs.declared.schedule.ScheduleFault.{ScheduleFault}
use Rattle.run_text.specs.declared.report.RunMode.TheVariants.{Empty}
use Rattle.run_text.specs.LaunchText.{LaunchOf}
use Rattle.run_text.specs.ScheduleText.{PairsOf}
use Rattle.run_text.specs.ReportText.{report_text}
use Rattle.replay.specs.Turns.{ReplayOf}
use Rattle.replay.specs.Reports.{report_of, end_status}
use Rattle.replay.specs.FaultNotes.{launch_note, schedule_note}
use Rattle.io_edge.specs.Outside.{Rose}
use Rattle.opt_core.specs.Answer.{Accepts, RefinesFirst, IsTextRefused, OfText, IsNote, IsBadWords, IsInputFailed, IsOutOfMemory}

-- ---- words

-- the files of a replay
pub record Paths : Type 0 where
  pub «module» : List ℕ
  pub launch : List ℕ
  pub schedule : List ℕ

-- the files that the words name: they are replay and three words
abbrev pub paths_of : List (List ℕ) → Option Paths
paths_of (command ∷ path ∷ launch ∷ schedule ∷ []) = if bytes_eq command (codes "replay") then Some (record { «module» = path; launch = launch; schedule = schedule }) else None
paths_of _ = None

-- ---- replies, with m for the module as it was read

-- the state after the schedule's steps is reported, and its end gives the status; or the first step that can't be made is told
abbrev pub IsRunReply : Module → Launch → List Pair → Result Team ScheduleFault → ℕ → List ℕ → List ℕ → Type 0
IsRunReply m l pairs (Err fault) status out notes = IsNote 4 (schedule_note fault) status out notes
IsRunReply m l pairs (Ok s) status out notes =
    (TeamRun (machine_off m) l (Expand pairs) ≡ Some s) × (status ≡ end_status (team_end s)) × (out ≡ report_text m (report_of m l Empty s pairs)) × (notes ≡ [])

abbrev pub IsPairsReply : Module → Launch → Result (List Pair) ScheduleFault → ℕ → List ℕ → List ℕ → Type 0
IsPairsReply m l (Err fault) status out notes = IsNote 4 (schedule_note fault) status out notes
IsPairsReply m l (Ok pairs) status out notes = IsRunReply m l pairs (ReplayOf (machine_off m) l pairs) status out notes

-- the reply to the text of a schedule
abbrev pub IsScheduleReply : Module → Launch → List ℕ → ℕ → List ℕ → List ℕ → Type 0
IsScheduleReply m l text = IsPairsReply m l (PairsOf text (length (team_start (machine_off m) l).threads))

-- a launch that is taken fits the module, and the file of the schedule is replied to
abbrev pub IsLaunchReply : Module → Option (List ℕ) → Result Launch LaunchFault → ℕ → List ℕ → List ℕ → Type 0
IsLaunchReply m schedule (Err fault) status out notes = IsNote 4 (launch_note fault) status out notes
IsLaunchReply m schedule (Ok l) status out notes = Fits m l × OfText schedule (λ text. IsScheduleReply m l text status out notes)

-- the module is taken, and the file of the launch is replied to
abbrev pub IsModuleReply : Option (List ℕ) → Option (List ℕ) → List ℕ → ℕ → List ℕ → List ℕ → Type 0
IsModuleReply launch schedule text status out notes =
    (m : Module) × Accepts text m × RefinesFirst m (machine_off m) × OfText launch (λ l. IsLaunchReply m schedule (LaunchOf m l) status out notes)

-- the reply to the three files
abbrev pub IsFilesReply : (List ℕ → Option (List ℕ)) → Paths → ℕ → List ℕ → List ℕ → Type 0
IsFilesReply held p status out notes =
    OfText (held p.module) (λ text. IsTextRefused text status out notes ⊎ IsModuleReply (held p.launch) (held p.schedule) text status out notes)

abbrev pub IsReplayAnswer : Option Paths → (List ℕ → Option (List ℕ)) → ℕ → List ℕ → List ℕ → Type 0
IsReplayAnswer None held = IsBadWords
IsReplayAnswer (Some p) held = IsFilesReply held p

-- ---- failed inputs

-- the text spells a launch of a module that is taken
abbrev pub IsLaunched : Option (List ℕ) → Option (List ℕ) → Type 0
IsLaunched file launch = OfText file (λ text. (m : Module) × Accepts text m × OfText launch (λ t. (l : Launch) × (LaunchOf m t ≡ Ok l)))

-- the count of a file has risen, and nothing of the files before it was refused
abbrev pub HasOneRisen : (List ℕ → Option (List ℕ)) → Paths → (List ℕ → ℕ) → (List ℕ → ℕ) → Type 0
HasOneRisen held p before after =
    Rose (before p.module) (after p.module)
    ⊎ (OfText (held p.module) (λ text. (m : Module) × Accepts text m) × Rose (before p.launch) (after p.launch))
    ⊎ (IsLaunched (held p.module) (held p.launch) × Rose (before p.schedule) (after p.schedule))

abbrev pub HasFailed : Option Paths → (List ℕ → Option (List ℕ)) → (List ℕ → ℕ) → (List ℕ → ℕ) → Type 0
HasFailed None held before after = ⊥
HasFailed (Some p) held before after = HasOneRisen held p before after

abbrev pub IsReplayFailure : Option Paths → ℕ → List ℕ → List ℕ → Type 0
IsReplayFailure None status out notes = ⊥
IsReplayFailure (Some p) status out notes = IsInputFailed status out notes

-- the reply to the words of a replay: their answer, or that an input failed or memory ran out
abbrev pub IsReplayReply : Option Paths → (List ℕ → Option (List ℕ)) → ℕ → List ℕ → List ℕ → Type 0
IsReplayReply paths held status out notes = IsReplayAnswer paths held status out notes ⊎ IsReplayFailure paths status out notes ⊎ IsOutOfMemory status out notes

-- the inputs serve the three files
abbrev pub AreServed : (List ℕ → Type 0) → Option Paths → Type 0
AreServed served None = Unit {0}
AreServed served (Some p) = served p.module × served p.launch × served p.schedule
