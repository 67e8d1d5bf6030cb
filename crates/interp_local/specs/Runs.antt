-- Runs of own steps, and why they pause.
use Rattle.std.specs.Prelude.{◌≡◌, ℕ, zero, suc, ◌≤◌, ◌<◌, Bool, true, false, Result, Ok, Err}
use Rattle.ir_core.specs.declared.module.Module.{Module}
use Rattle.ir_core.specs.declared.answers.Or.{Or}
use Rattle.ir_core.specs.declared.answers.Or.TheVariants.{Refused}
use Rattle.mem_model.specs.declared.step.Trap.{Trap}
use Rattle.mem_model.specs.Thread.{ThreadState}
use Rattle.mem_model.specs.Next.{NextStep, Local, Pending, Done, Trapped, Next}
use Rattle.thread_state.specs.declared.state.ThreadState.{ThreadState as ThreadData}
use Rattle.thread_state.specs.Seen.{thread_seen, IsThread}
use Rattle.interp_local.specs.declared.steps.Own.{Own}
use Rattle.interp_local.specs.Steps.{StandsAtTaking}
use Rattle.interp_local.specs.declared.steps.Own.TheVariants.{Went, Event, Done as HasEnded}
use Rattle.interp_local.specs.declared.run.Pause.{Pause}
use Rattle.interp_local.specs.declared.run.Pause.TheVariants.{Event as EventPause, Limit, Done as DonePause, Trapped as TrapPause}
use Rattle.interp_local.specs.declared.run.Ran.{Ran}

-- so many own steps of a thread, one after another
abbrev pub LocalRun : Module → ThreadState → ℕ → ThreadState → Type 0
LocalRun m t zero u = u ≡ t
LocalRun m t (suc n) u = (v : ThreadState) × LocalRun m t n v × (Next m v ≡ Local u)

-- the next step is its own, an event, none or a trap
abbrev pub Tells : NextStep → Result Own Trap → Type 0
Tells (Local u) (Ok Went) = Unit {0}
Tells (Pending e) (Ok Event) = Unit {0}
Tells Done (Ok HasEnded) = Unit {0}
Tells (Trapped x) (Err y) = x ≡ y
Tells _ _ = ⊥

-- why a run of so many steps pauses before this one
abbrev pub Pauses : ℕ → ℕ → NextStep → Pause → Type 0
Pauses steps limit (Local u) Limit = steps ≡ limit
Pauses steps limit (Pending e) EventPause = Unit {0}
Pauses steps limit Done DonePause = Unit {0}
Pauses steps limit (Trapped x) (TrapPause y) = x ≡ y
Pauses steps limit _ _ = ⊥

-- a run of own steps as long as it goes, of as many steps as are allowed at most
pub record IsRan (m : Module) (old new : ThreadData) (limit : ℕ) (ran : Ran) : Type 0 where
  pub thread : IsThread m new
  pub run : LocalRun m (thread_seen m old) ran.steps (thread_seen m new)
  pub within : ran.steps ≤ limit
  pub pause : Pauses ran.steps limit (Next m (thread_seen m new)) ran.pause

-- memory wants behind some own steps, fewer than are allowed, at an instruction that takes some
pub record HasRunShort (m : Module) (old new : ThreadData) (limit : ℕ) : Type 0 where
  pub steps : ℕ
  pub thread : IsThread m new
  pub run : LocalRun m (thread_seen m old) steps (thread_seen m new)
  pub within : steps < limit
  pub takes : StandsAtTaking m (thread_seen m new)

-- ---- the same of what a step has answered

abbrev pub is_went : Result Own Trap → Bool
is_went (Ok Went) = true
is_went _ = false

abbrev pub pause_seen : Result Own Trap → Pause
pause_seen (Ok Went) = Limit
pause_seen (Ok Event) = EventPause
pause_seen (Ok HasEnded) = DonePause
pause_seen (Err trap) = TrapPause trap

abbrev pub tried : Result Own Trap → Result Own (Or Trap)
tried (Ok own) = Ok own
tried (Err trap) = Err (Refused trap)
