-- What machine threads share as code, and what an event makes of it and of the state of its thread.
use Rattle.std.specs.Prelude.{◌≡◌, ℕ, ◌+◌, List, [], ◌∷◌, ◌++◌, Option, Some, None, Result, Ok, Err, slice_get, slice_set}
use Rattle.ir_core.specs.declared.module.Module.{Module}
use Rattle.ir_core.specs.Places.{Name, inst_at}
use Rattle.mem_model.specs.declared.step.Trap.{Trap}
use Rattle.mem_model.specs.Thread.{Frame, ThreadState}
use Rattle.mem_model.specs.Next.{Event, Does, Deinit, Forks, Arrives, AsksForWork, Leaves, NextStep, Pending, resumed, arrived, result_of, line_at}
use Rattle.mem_model.specs.Work.{given_work}
use Rattle.mem_model.specs.Do.{Effect, Do}
use Rattle.mem_model.specs.Memory.{Memory}
use Rattle.mem_model.specs.Update.{Updated}
use Rattle.mem_model.specs.declared.phase.Phase.TheVariants.{Published}
use Rattle.mem_model.specs.declared.step.Barrier.TheVariants.{Team as TeamBarrier}
use Rattle.team_model.specs.declared.Stand.{Stand}
use Rattle.team_model.specs.declared.Stand.TheVariants.{Waits, Ended as Gone}
use Rattle.team_model.specs.declared.Trapping.{Trapping}
use Rattle.team_model.specs.Team.{TeamShared, Team, published, opened, slot_after_deinit, TeamStep}
use Rattle.thread_state.specs.declared.state.ThreadState.{ThreadState as ThreadData}
use Rattle.thread_state.specs.Seen.{thread_seen, IsThread}
use Rattle.captures.specs.Published.{IsArea}
use Rattle.interp_local.specs.declared.actions.Action.{Action}
use Rattle.interp_local.specs.declared.actions.Action.TheVariants.{Prints, Makes as MakesBlock}
use Rattle.interp_local.specs.Steps.{Knows}
use Rattle.interp.specs.declared.shared.TeamShared.{TeamShared as SharedData}
use Rattle.interp.specs.declared.shared.Answer.{Answer}
use Rattle.interp.specs.declared.shared.Answer.TheVariants.{Went, Wait, Trapped}
use Rattle.interp.specs.declared.events.Here.{Here}

-- the history is no part of what threads share in the team meaning
abbrev pub shared_seen : SharedData → TeamShared
shared_seen sh = record { common = record { memory = sh.memory; heaps = sh.heaps; prints = sh.prints }; stands = sh.stands; slot = sh.slot; trapped = sh.trapped }

-- ---- an event of thread n

abbrev pub by_effect : Module → TeamShared → ℕ → ThreadState → Result Effect Trap → TeamShared × ThreadState
by_effect m sh n t (Err trap) = (record sh { trapped = Some (record { thread = n; line = line_at m t; trap = trap }) }, t)
by_effect m sh n t (Ok effect) = (record sh { common = effect.common }, resumed m t effect.answer)

abbrev pub by_work : Module → TeamShared → ℕ → ThreadState → Result ThreadState Trap → TeamShared × ThreadState
by_work m sh n t (Err trap) = (record sh { trapped = Some (record { thread = n; line = line_at m t; trap = trap }) }, t)
by_work m sh n t (Ok u) = (sh, u)

-- what is shared and the thread behind an event
abbrev pub made : Module → TeamShared → ℕ → ThreadState → Event → TeamShared × ThreadState
made m sh n t (Does action) = by_effect m sh n t (Do action sh.common)
made m sh n t Deinit = (record sh { slot = slot_after_deinit t sh.slot }, resumed m t None)
made m sh n t (Forks function wrapper ps) = (record sh { common = record sh.common { memory = published 0 ps sh.common.memory }; slot = Some wrapper }, arrived t (Some Published))
made m sh n t (Arrives kind phase) = (record sh { stands = opened kind t.answers.count (slice_set sh.stands n (Waits kind)) }, arrived t phase)
made m sh n t AsksForWork = by_work m sh n t (given_work m t sh.slot)
made m sh n t Leaves = (record sh { stands = opened TeamBarrier 0 (slice_set sh.stands n Gone) }, t)

-- what has come of an event, by the trap that has ended the run and how its thread stands
abbrev pub answer_of : Option Trapping → Option Stand → Answer
answer_of (Some trapping) stand = Trapped trapping.trap
answer_of None (Some (Waits kind)) = Wait
answer_of None stand = Went

abbrev pub IsPending : NextStep → Type 0
IsPending (Pending e) = Unit {0}
IsPending _ = ⊥

-- the state stands for one with this innermost call, and its instruction has this line and this register
pub record IsHere (m : Module) (s : ThreadData) (x : Option Name) (here : Here) (f : Frame) (rest : List Frame) : Type 0 where
  pub knows : Knows m s x here.register f rest
  pub result : x ≡ result_of (inst_at m f.code.at)
  pub line : here.line ≡ line_at m (thread_seen m s)

-- the memory that was to come and the number that stood there, or the trap and the memory as it was
abbrev pub IsUpdated : Result Updated Trap → Memory → Memory → Result ℕ Trap → Type 0
IsUpdated (Ok u) old new result = (result ≡ Ok u.old) × (new ≡ u.memory)
IsUpdated (Err trap) old new result = (result ≡ Err trap) × (new ≡ old)

-- an event is made, but for the history
pub record Makes (m : Module) (n : ℕ) (sh sh' : SharedData) (s s' : ThreadData) (e : Event) : Type 0 where
  pub thread : IsThread m s'
  pub shared : shared_seen sh' ≡ (made m (shared_seen sh) n (thread_seen m s) e).0
  pub state : thread_seen m s' ≡ (made m (shared_seen sh) n (thread_seen m s) e).1
  pub history : sh'.history ≡ sh.history

-- the event is made, or memory was wanting and all is as it was
abbrev pub IsMadeOrSame : {U E : Type 0} → Module → ℕ → SharedData → SharedData → ThreadData → ThreadData → Event → Result U E → Type 0
IsMadeOrSame m n sh sh' s s' e (Ok u) = Makes m n sh sh' s s' e
IsMadeOrSame m n sh sh' s s' e (Err x) = (sh' ≡ sh) × (s' ≡ s)

-- takes memory: prints a number, or makes a heap block
abbrev pub WantsMemory : Action → Type 0
WantsMemory (Prints n) = Unit {0}
WantsMemory (MakesBlock size) = Unit {0}
WantsMemory _ = ⊥

-- thread n of any team with this shared part and this state of the thread makes one step, by its event
pub record HasHappened (m : Module) (n local_steps : ℕ) (sh sh' : SharedData) (s s' : ThreadData) (answer : Answer) : Type 0 where
  pub thread : IsThread m s'
  pub area : IsArea sh.memory → IsArea sh'.memory
  pub step : (team : Team) → team.shared ≡ shared_seen sh → slice_get team.threads n ≡ Some (thread_seen m s) → TeamStep m team n ≡ Some (record { shared = shared_seen sh'; threads = slice_set team.threads n (thread_seen m s') })
  pub answer_is : answer ≡ answer_of sh'.trapped (slice_get sh'.stands n)
  pub history : sh'.history ≡ sh.history ++ record { thread = n; count = local_steps + 1 } ∷ []
