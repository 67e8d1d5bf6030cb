-- What the calls that make the steps of a schedule answer.
use Rattle.std.specs.Prelude.{◌≡◌, ℕ, zero, suc, List, Some, None, Result, Ok, Err}
use Rattle.ir_core.specs.declared.module.Module.{Module}
use Rattle.ir_core.specs.declared.answers.Or.{Or}
use Rattle.ir_core.specs.declared.answers.Or.TheVariants.{Refused, Memory}
use Rattle.team_model.specs.Team.{Team, TeamStep}
use Rattle.run_text.specs.declared.schedule.ScheduleFaultKind.{ScheduleFaultKind}
use Rattle.run_text.specs.declared.schedule.ScheduleFaultKind.TheVariants.{NotReady, OverBound}
use Rattle.run_text.specs.declared.schedule.ScheduleFault.{ScheduleFault}
use Rattle.interp.specs.declared.team.Team.{Team as TeamData}
use Rattle.interp.specs.Teams.{team_seen, IsTeam}
use Rattle.replay.specs.Turns.{Turn, replayed}

-- a step was made, and there is one less left; or there was none left, or else its thread isn't ready
abbrev pub TakesTurn : Module → ℕ → ℕ → TeamData → TeamData → Result ℕ (Or ScheduleFaultKind) → Type 0
TakesTurn m zero thread old new result = result ≡ Err (Refused OverBound)
TakesTurn m (suc left) thread old new (Ok fewer) = (fewer ≡ left) × IsTeam m new × (TeamStep m (team_seen m old) thread ≡ Some (team_seen m new))
TakesTurn m (suc left) thread old new (Err (Refused fault)) = (fault ≡ NotReady) × (TeamStep m (team_seen m old) thread ≡ None)
TakesTurn m (suc left) thread old new (Err Memory) = Unit {0}

-- these steps go on with the rest from the new state and what is left of the bound, or end with the fault
abbrev pub GoesOn : Module → Result Team ScheduleFault → List Turn → TeamData → Result ℕ (Or ScheduleFault) → Type 0
GoesOn m expected rest new (Ok left) = IsTeam m new × (expected ≡ replayed m left rest (team_seen m new))
GoesOn m expected rest new (Err (Refused fault)) = expected ≡ Err fault
GoesOn m expected rest new (Err Memory) = Unit {0}

-- the team has come to the state that was to come, or the fault is the one that was
abbrev pub IsReplayed : {U : Type 0} → Module → Result Team ScheduleFault → TeamData → Result U (Or ScheduleFault) → Type 0
IsReplayed m expected new (Ok u) = IsTeam m new × (expected ≡ Ok (team_seen m new))
IsReplayed m expected new (Err (Refused fault)) = expected ≡ Err fault
IsReplayed m expected new (Err Memory) = Unit {0}
