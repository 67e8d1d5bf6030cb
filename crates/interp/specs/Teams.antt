-- A team as code, and what a step of one of its threads makes of it.
use Rattle.std.specs.Prelude.{◌≡◌, ℕ, List, map, Bool, true, false, ◌&&◌, Option, Some, None, Result, Ok, Err, slice_get, slice_set}
use Rattle.ir_core.specs.declared.module.Module.{Module}
use Rattle.ir_core.specs.declared.answers.Or.{Or}
use Rattle.ir_core.specs.declared.answers.Or.TheVariants.{Refused, Memory as WantOfMemory}
use Rattle.mem_model.specs.declared.step.Moved.{Moved}
use Rattle.mem_model.specs.declared.step.Moved.TheVariants.{Local as LocalMove, Event as EventMove, Trapped as TrapMove}
use Rattle.mem_model.specs.declared.step.NotReady.{NotReady}
use Rattle.mem_model.specs.Next.{NextStep, Local, Pending, Done, Trapped, Next}
use Rattle.team_model.specs.declared.Stand.{Stand}
use Rattle.team_model.specs.declared.Stand.TheVariants.{Runs}
use Rattle.team_model.specs.declared.Trapping.{Trapping}
use Rattle.team_model.specs.Team.{Team, TeamStep}
use Rattle.thread_state.specs.declared.state.ThreadState.{ThreadState as ThreadData}
use Rattle.thread_state.specs.Seen.{thread_seen, IsThread, IsSeen}
use Rattle.captures.specs.Published.{IsArea}
use Rattle.interp.specs.declared.shared.TeamShared.{TeamShared as SharedData}
use Rattle.interp.specs.declared.team.Team.{Team as TeamData}
use Rattle.interp.specs.Events.{shared_seen}

abbrev pub team_seen : Module → TeamData → Team
team_seen m t = record { shared = shared_seen t.shared; threads = map (thread_seen m) t.threads.items }

abbrev pub runs : Option Stand → Bool
runs (Some Runs) = true
runs _ = false

abbrev pub goes : Option Trapping → Bool
goes None = true
goes (Some t) = false

-- nothing has trapped, and thread n has not ended and doesn't wait
abbrev pub is_running : SharedData → ℕ → Bool
is_running sh n = goes sh.trapped && runs (slice_get sh.stands n)

-- what kind of step was made
abbrev pub IsMoved : NextStep → Option Trapping → Moved → Type 0
IsMoved (Local u) None LocalMove = Unit {0}
IsMoved (Pending e) None EventMove = Unit {0}
IsMoved (Pending e) (Some t) TrapMove = Unit {0}
IsMoved (Trapped x) (Some t) TrapMove = t.trap ≡ x
IsMoved _ _ _ = ⊥

-- thread n of any team with this shared part and this state of the thread makes one step
pub record Advances (m : Module) (n : ℕ) (sh sh' : SharedData) (s s' : ThreadData) (moved : Moved) : Type 0 where
  pub thread : IsThread m s'
  pub area : IsArea sh.memory → IsArea sh'.memory
  pub step : (team : Team) → team.shared ≡ shared_seen sh → slice_get team.threads n ≡ Some (thread_seen m s) → TeamStep m team n ≡ Some (record { shared = shared_seen sh'; threads = slice_set team.threads n (thread_seen m s') })
  pub moved_is : IsMoved (Next m (thread_seen m s)) sh'.trapped moved

-- a thread that runs makes one step, or has none; for want of memory all means what it did
abbrev pub HasAdvanced : Module → ℕ → SharedData → SharedData → ThreadData → ThreadData → Result Moved (Or NotReady) → Type 0
HasAdvanced m n sh sh' s s' (Ok moved) = Advances m n sh sh' s s' moved
HasAdvanced m n sh sh' s s' (Err (Refused r)) = (Next m (thread_seen m s) ≡ Done) × (sh' ≡ sh) × (s' ≡ s)
HasAdvanced m n sh sh' s s' (Err WantOfMemory) = (sh' ≡ sh) × IsSeen m s' (thread_seen m s)

abbrev pub AreThreads : Module → List ThreadData → Type 0
AreThreads m ss = (i : ℕ) (s : ThreadData) → slice_get ss i ≡ Some s → IsThread m s

-- each thread's state stands for one, and the capture area is there
abbrev pub IsTeam : Module → TeamData → Type 0
IsTeam m t = AreThreads m t.threads.items × IsArea t.shared.memory

-- what kind of step thread n has made
abbrev pub MovesBy : Module → ℕ → TeamData → TeamData → Moved → Type 0
MovesBy m n old new moved = (s : ThreadData) → slice_get old.threads.items n ≡ Some s → IsMoved (Next m (thread_seen m s)) new.shared.trapped moved

abbrev pub IsSame : TeamData → TeamData → Type 0
IsSame old new = (new.shared ≡ old.shared) × (new.threads.items ≡ old.threads.items)

-- the team has made a step of thread n; where that isn't ready all is as it was, and for want of memory it means what it did
abbrev pub HasStepped : Module → ℕ → TeamData → TeamData → Result Moved (Or NotReady) → Type 0
HasStepped m n old new (Ok moved) = (TeamStep m (team_seen m old) n ≡ Some (team_seen m new)) × IsTeam m new × MovesBy m n old new moved
HasStepped m n old new (Err (Refused r)) = (TeamStep m (team_seen m old) n ≡ None) × IsSame old new
HasStepped m n old new (Err WantOfMemory) = (new.shared ≡ old.shared) × (team_seen m new ≡ team_seen m old) × IsTeam m new
