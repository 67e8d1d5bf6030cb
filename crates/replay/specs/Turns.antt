-- The steps of a schedule, one after another, and the first of them that can't be made.
use Rattle.std.specs.Prelude.{ℕ, zero, suc, ◌+◌, List, [], ◌∷◌, ◌++◌, Option, Some, None, Result, Ok, Err}
use Rattle.ir_core.specs.declared.module.Module.{Module}
use Rattle.mem_model.specs.declared.launch.Launch.{Launch}
use Rattle.team_model.specs.declared.Pair.{Pair}
use Rattle.team_model.specs.Team.{Team, TeamStep, team_start}
use Rattle.run_text.specs.declared.schedule.ScheduleFaultKind.{ScheduleFaultKind}
use Rattle.run_text.specs.declared.schedule.ScheduleFaultKind.TheVariants.{NotReady, OverBound}
use Rattle.run_text.specs.declared.schedule.ScheduleFault.{ScheduleFault}

-- a step of a schedule: its thread, the line of its pair, and which of the line's steps it is, both counted from 1
pub record Turn : Type 0 where
  pub thread : ℕ
  pub line : ℕ
  pub step : ℕ

-- so many steps of a pair, from this one on
abbrev pub turns_from : ℕ → ℕ → ℕ → ℕ → List Turn
turns_from thread line step zero = []
turns_from thread line step (suc count) = record { thread = thread; line = line; step = step } ∷ turns_from thread line (step + 1) count

-- each pair stands on a line of its own
abbrev pub turns : ℕ → List Pair → List Turn
turns line [] = []
turns line (p ∷ ps) = turns_from p.thread line 1 p.count ++ turns (line + 1) ps

abbrev pub fault_of : Turn → ScheduleFaultKind → ScheduleFault
fault_of t fault = record { fault = fault; line = t.line; step = t.step }

abbrev pub if_ready : Turn → Option Team → (Team → Result Team ScheduleFault) → Result Team ScheduleFault
if_ready t None go = Err (fault_of t NotReady)
if_ready t (Some s) go = go s

-- the team after the steps, of which so many are left within the bound; or the first fault: a step that is above the bound, or else
-- one for which its thread isn't ready
abbrev pub replayed : Module → ℕ → List Turn → Team → Result Team ScheduleFault
replayed m left [] s = Ok s
replayed m zero (t ∷ ts) s = Err (fault_of t OverBound)
replayed m (suc left) (t ∷ ts) s = if_ready t (TeamStep m s t.thread) (replayed m left ts)

-- the team after the whole schedule of a launch, or the schedule's first fault
abbrev pub ReplayOf : Module → Launch → List Pair → Result Team ScheduleFault
ReplayOf m l pairs = replayed m l.steps (turns 1 pairs) (team_start m l)
