-- The source meaning, step by step.
use Rattle.std.specs.Prelude.{ℕ, zero, suc, ◌+◌, ◌-◌, ◌^◌, ◌==◌, List, [], ◌∷◌, map, Bool, true, false, ◌&&◌, ◌||◌, not, Option, Some, None, Result, Ok, Err, is_some, slice_get, slice_set, if◌then◌else◌}
use Rattle.std.specs.List.{list_all, list_any}
use Rattle.ir_core.specs.declared.module.Module.{Module}
use Rattle.mem_model.specs.declared.launch.Launch.{Launch}
use Rattle.mem_model.specs.declared.memory.Ptr.{Ptr}
use Rattle.mem_model.specs.declared.memory.Word.{Word}
use Rattle.mem_model.specs.declared.step.Barrier.{Barrier}
use Rattle.mem_model.specs.declared.step.Barrier.TheVariants.{Explicit}
use Rattle.mem_model.specs.declared.step.End.{End}
use Rattle.mem_model.specs.declared.step.End.TheVariants.{Running, Ended, Stuck, Trapped as TrappedEnd}
use Rattle.mem_model.specs.declared.step.Trap.{Trap}
use Rattle.mem_model.specs.declared.step.Trap.TheVariants.{Unreachable}
use Rattle.mem_model.specs.declared.phase.Phase.{Phase}
use Rattle.mem_model.specs.Thread.{Answers, Frame, ThreadState}
use Rattle.mem_model.specs.Regions.{words_formed, in_region}
use Rattle.mem_model.specs.Next.{Event, Does, Deinit, Forks, Arrives, AsksForWork, Leaves, NextStep, Local, Pending, Done, Trapped, Next, with_frames, resumed, arrived, line_at}
use Rattle.mem_model.specs.Do.{Common, Effect, Do}
use Rattle.mem_model.specs.Runs.{run, Comes, Safe as IsSafe}
use Rattle.mem_model.specs.Launching.{Role, idle_thread, first_thread, first_memory, first_common, Outcome, outcome_of}
use Rattle.source_model.specs.declared.Choice.{Choice}
use Rattle.source_model.specs.declared.Choice.TheVariants.{Main, Region}

-- a thread has trapped, at this line
pub record Trapping : Type 0 where
  pub thread : ℕ
  pub line : ℕ
  pub trap : Trap

-- a region thread, and whether it waits at the barrier of its region
pub record RegionThread : Type 0 where
  pub thread : ThreadState
  pub waits : Bool

-- what is common, the main thread, the region threads, which have no call outside of a region, whether the main thread has returned,
-- and whether a thread has trapped
pub record SourceState : Type 0 where
  pub common : Common
  pub main : ThreadState
  pub region : List RegionThread
  pub returned : Bool
  pub trapped : Option Trapping

-- ---- the start

abbrev pub answers_at : ℕ → ℕ → Answers
answers_at init bit = record { init = init; number = 0; count = 1; level = 0; spmd = bit }

abbrev pub minus_one : ℕ
minus_one = 2 ^ 32 - 1

-- no thread of the source enters a region itself: a fork makes it
abbrev pub role : Launch → ℕ → Role
role l n = record { own = n; size = l.threads; enters = false }

-- the main thread runs user code: __kmpc_target_init answers -1 to it. It is named by the number of region threads
abbrev pub main_answers : ℕ → Answers
main_answers bit = answers_at minus_one bit

-- a region thread is told by its number with the mode bit 0, as a worker is; it doesn't ask
abbrev pub region_answers : ℕ → ℕ → Answers
region_answers bit n = answers_at (if bit == 0 then n else minus_one) bit

-- n region threads from number t on
abbrev pub region_threads : Launch → ℕ → ℕ → ℕ → List RegionThread
region_threads l bit t zero = []
region_threads l bit t (suc n) = record { thread = idle_thread (role l t) (region_answers bit t); waits = false } ∷ region_threads l bit (t + 1) n

abbrev pub source_start : Module → Launch → ℕ → SourceState
source_start m l bit = record {
  common = first_common (first_memory m l);
  main = first_thread m l (role l l.threads) (main_answers bit);
  region = region_threads l bit 0 l.threads;
  returned = false;
  trapped = None;
}

-- ---- who makes a step

abbrev pub with_region : SourceState → ℕ → RegionThread → SourceState
with_region s n r = record s { region = slice_set s.region n r }

-- the state with the state of a thread behind its step
abbrev pub with_thread : SourceState → Choice → ThreadState → SourceState
with_thread s Main t = record s { main = t }
with_thread s (Region n) t = with_region s n (record { thread = t; waits = false })

-- the main thread has returned; a region thread has no call left
abbrev pub leaves : SourceState → Choice → ThreadState → SourceState
leaves s Main t = record s { returned = true }
leaves s (Region n) t = with_thread s (Region n) (with_frames t [])

-- ---- one step

abbrev pub traps : Module → SourceState → ThreadState → Trap → SourceState
traps m s t trap = record s { trapped = Some (record { thread = t.own; line = line_at m t; trap = trap }) }

abbrev pub acts : Module → SourceState → Choice → ThreadState → Result Effect Trap → SourceState
acts m s c t (Err trap) = traps m s t trap
acts m s c t (Ok effect) = with_thread (record s { common = effect.common }) c (resumed m t effect.answer)

-- a fork makes the region threads, each on a new part of its own stack; the main thread goes on behind it when they have returned
abbrev pub begins_region : Module → ℕ → List Word → RegionThread → RegionThread
begins_region m function words r = record { thread = in_region m r.thread [] function words; waits = false }

abbrev pub forks : Module → SourceState → Choice → ThreadState → ℕ → Result (List Word) Trap → SourceState
forks m s c t function (Err trap) = traps m s t trap
forks m s c t function (Ok words) = record (with_thread s c (arrived t None)) { region = map (begins_region m function words) s.region }

-- the barrier of a region opens when all its threads wait at it
abbrev pub is_waiting : RegionThread → Bool
is_waiting r = r.waits

abbrev pub goes_again : RegionThread → RegionThread
goes_again r = record r { waits = false }

abbrev pub opened : List RegionThread → List RegionThread
opened rs = if list_all is_waiting rs then map goes_again rs else rs

abbrev pub arrives : SourceState → Choice → ThreadState → SourceState
arrives s Main t = record s { main = t }
arrives s (Region n) t = record s { region = opened (slice_set s.region n (record { thread = t; waits = true })) }

-- a thread's event; __kmpc_target_deinit does nothing, and what the optimiser alone writes is in no source
abbrev pub happens : Module → SourceState → Choice → ThreadState → Event → SourceState
happens m s c t (Does action) = acts m s c t (Do action s.common)
happens m s c t Deinit = with_thread s c (resumed m t None)
happens m s c t (Forks function wrapper ps) = forks m s c t function (words_formed m wrapper ps)
happens m s c t (Arrives Explicit phase) = arrives s c (arrived t phase)
happens m s c t (Arrives kind phase) = traps m s t Unreachable
happens m s c t AsksForWork = traps m s t Unreachable
happens m s c t Leaves = leaves s c t

abbrev pub by_next : Module → SourceState → Choice → ThreadState → NextStep → Option SourceState
by_next m s c t (Local u) = Some (with_thread s c u)
by_next m s c t (Pending event) = Some (happens m s c t event)
by_next m s c t Done = None
by_next m s c t (Trapped trap) = Some (traps m s t trap)

abbrev pub has_returned : RegionThread → Bool
has_returned r = is_empty r.thread.frames
  where
    is_empty : List Frame → Bool
    is_empty [] = true
    is_empty (f ∷ fs) = false

-- the main thread goes on where no region thread has a call
abbrev pub by_main : Module → SourceState → Bool → Option SourceState
by_main m s true = by_next m s Main s.main (Next m s.main)
by_main m s false = None

abbrev pub by_region : Module → SourceState → ℕ → Option RegionThread → Option SourceState
by_region m s n None = None
by_region m s n (Some r) = if r.waits then None else by_next m s (Region n) r.thread (Next m r.thread)

abbrev pub by_choice : Module → SourceState → Choice → Option SourceState
by_choice m s Main = by_main m s (list_all has_returned s.region)
by_choice m s (Region n) = by_region m s n (slice_get s.region n)

abbrev pub while_running : Bool → Option Trapping → Option SourceState → Option SourceState
while_running false None go = go
while_running _ _ go = None

-- the state after a choice; none where it isn't ready
abbrev pub SourceStep : Module → SourceState → Choice → Option SourceState
SourceStep m s choice = while_running s.returned s.trapped (by_choice m s choice)

-- ---- ends and runs

abbrev pub running_or_stuck : Bool → End
running_or_stuck true = Running
running_or_stuck false = Stuck

abbrev pub end_by : Option Trapping → Bool → Bool → End
end_by (Some t) returned ready = TrappedEnd t.thread t.line t.trap
end_by None true ready = Ended
end_by None false ready = running_or_stuck ready

-- a region thread that has a call and doesn't wait can go on
abbrev pub can_go : RegionThread → Bool
can_go r = not (has_returned r) && not r.waits

-- trapped after a trap, ended when the main thread has returned, stuck when it is neither and no thread is ready
abbrev pub source_end : Module → SourceState → End
source_end m s = end_by s.trapped s.returned (is_some (SourceStep m s Main) || list_any can_go s.region)

abbrev pub source_outcome : Module → Launch → SourceState → Outcome
source_outcome m l s = outcome_of m l s.common

-- the state after a schedule: a mode bit, 0 or 1, and choices; none where a choice isn't ready
abbrev pub SourceRun : Module → Launch → ℕ → List Choice → Option SourceState
SourceRun m l bit schedule = run (SourceStep m) schedule (source_start m l bit)

-- what the schedules at a mode bit come to
abbrev pub SourceSystem : Module → Launch → ℕ → ℕ → End → Outcome → Type 0
SourceSystem m l bit = Comes (SourceStep m) (source_start m l bit) (source_end m) (source_outcome m l)

-- no schedule traps, at either mode bit
abbrev pub Safe : Module → Launch → Type 0
Safe m l = IsSafe (SourceSystem m l 0) × IsSafe (SourceSystem m l 1)
