-- The team meaning, step by step.
use Rattle.std.specs.Prelude.{ℕ, zero, suc, ◌+◌, ◌-◌, ◌*◌, ◌^◌, List, [], ◌∷◌, ◌++◌, length, map, replicate, Bool, true, false, ◌||◌, Option, Some, None, Result, Ok, Err, slice_get, slice_set, if◌then◌else◌, ◌==◌}
use Rattle.std.specs.List.{flat_map, filter, list_all}
use Rattle.ir_core.specs.declared.instructions.Value.{Value}
use Rattle.ir_core.specs.declared.instructions.Value.TheVariants.{Int as IntValue}
use Rattle.ir_core.specs.declared.instructions.Typed.{Typed}
use Rattle.ir_core.specs.declared.instructions.Kind.{Kind}
use Rattle.ir_core.specs.declared.instructions.Kind.TheVariants.{Call}
use Rattle.ir_core.specs.declared.instructions.Inst.{Inst}
use Rattle.ir_core.specs.declared.module.Module.{Module}
use Rattle.ir_core.specs.declared.module.Function.{Function}
use Rattle.ir_core.specs.declared.module.Block.{Block}
use Rattle.ir_core.specs.MachineOff.{calls_init}
use Rattle.mem_model.specs.declared.launch.Launch.{Launch}
use Rattle.mem_model.specs.declared.memory.BlockName.TheVariants.{Captures}
use Rattle.mem_model.specs.declared.memory.Byte.TheVariants.{Num}
use Rattle.mem_model.specs.declared.memory.Ptr.{Ptr}
use Rattle.mem_model.specs.declared.step.Barrier.{Barrier}
use Rattle.mem_model.specs.declared.step.Barrier.TheVariants.{Explicit, Team as TeamBarrier, Join, Guard}
use Rattle.mem_model.specs.declared.step.End.{End}
use Rattle.mem_model.specs.declared.step.End.TheVariants.{Running, Ended, Stuck, Trapped as TrappedEnd}
use Rattle.mem_model.specs.declared.step.Trap.{Trap}
use Rattle.mem_model.specs.Memory.{Memory, with_block, put_bytes}
use Rattle.mem_model.specs.Words.{pointer_bytes}
use Rattle.mem_model.specs.declared.phase.Phase.{Phase}
use Rattle.mem_model.specs.declared.phase.Phase.TheVariants.{Published}
use Rattle.mem_model.specs.Thread.{Answers, ThreadState}
use Rattle.ir_core.specs.Places.{function_place}
use Rattle.mem_model.specs.Next.{Event, Does, Deinit, Forks, Arrives, AsksForWork, Leaves, NextStep, Local, Pending, Done, Trapped, Next, resumed, arrived, line_at}
use Rattle.mem_model.specs.Work.{given_work}
use Rattle.mem_model.specs.Do.{Common, Effect, Do}
use Rattle.mem_model.specs.Runs.{run, Comes}
use Rattle.mem_model.specs.Launching.{Role, first_thread, first_memory, first_common, Outcome, outcome_of}
use Rattle.team_model.specs.declared.Pair.{Pair}
use Rattle.team_model.specs.declared.Stand.{Stand}
use Rattle.team_model.specs.declared.Stand.TheVariants.{Runs, Waits, Ended as Gone}
use Rattle.team_model.specs.declared.Trapping.{Trapping}

-- what machine threads share: what is common, with the capture area as a block of its memory; how each thread stands; the work slot,
-- which holds the place of a published wrapper or null; and the trap that has ended the run
pub record TeamShared : Type 0 where
  pub common : Common
  pub stands : List Stand
  pub slot : Option ℕ
  pub trapped : Option Trapping

pub record Team : Type 0 where
  pub shared : TeamShared
  pub threads : List ThreadState

-- ---- the mode of a kernel: its init call's

abbrev pub mode_number : Value → List ℕ
mode_number (IntValue n) = n ∷ []
mode_number _ = []

abbrev pub mode_operand : List Typed → List ℕ
mode_operand (place ∷ mode ∷ flag ∷ []) = mode_number mode.value
mode_operand _ = []

abbrev pub kind_modes : Kind → List ℕ
kind_modes (Call tail_word ret callee operands) = if calls_init callee then mode_operand operands else []
kind_modes _ = []

abbrev pub inst_modes : Inst → List ℕ
inst_modes i = kind_modes i.kind

abbrev pub block_modes : Block → List ℕ
block_modes b = flat_map inst_modes b.insts

abbrev pub is_spmd_mode : List ℕ → Bool
is_spmd_mode [] = false
is_spmd_mode (mode ∷ modes) = mode == 2

abbrev pub is_spmd_function : Option Function → Bool
is_spmd_function None = false
is_spmd_function (Some f) = is_spmd_mode (flat_map block_modes f.blocks)

abbrev pub function_at : Module → Option ℕ → Option Function
function_at m None = None
function_at m (Some k) = slice_get m.functions k

-- whether the launched kernel runs in SPMD mode
abbrev pub is_spmd : Module → Launch → Bool
is_spmd m l = is_spmd_function (function_at m (function_place m l.kernel))

-- ---- the start

-- 512 zero bytes, in which the words of a region are published
abbrev pub with_captures : Memory → Memory
with_captures m = with_block m Captures false (replicate 512 (Num 0))

abbrev pub answers_at : ℕ → ℕ → Answers
answers_at init bit = record { init = init; number = 0; count = 1; level = 0; spmd = bit }

abbrev pub minus_one : ℕ
minus_one = 2 ^ 32 - 1

abbrev pub role : Launch → Bool → ℕ → Role
role l enters t = record { own = t; size = l.threads; enters = enters }

-- a worker of a generic kernel gets its number from __kmpc_target_init, a thread that runs user code gets -1
abbrev pub worker : Module → Launch → ℕ → ThreadState
worker m l t = first_thread m l (role l false t) (answers_at t 0)

abbrev pub main_thread : Module → Launch → ThreadState
main_thread m l = first_thread m l (role l false l.threads) (answers_at minus_one 0)

-- a thread of an SPMD kernel enters the regions of its forks itself
abbrev pub spmd_thread : Module → Launch → ℕ → ThreadState
spmd_thread m l t = first_thread m l (role l true t) (answers_at minus_one 1)

-- n threads from number t on
abbrev pub threads_from : (ℕ → ThreadState) → ℕ → ℕ → List ThreadState
threads_from thread t zero = []
threads_from thread t (suc n) = thread t ∷ threads_from thread (t + 1) n

-- the workers and then the main thread, or all alike
abbrev pub first_threads : Module → Launch → Bool → List ThreadState
first_threads m l true = threads_from (spmd_thread m l) 0 l.threads
first_threads m l false = threads_from (worker m l) 0 l.threads ++ main_thread m l ∷ []

abbrev pub runs_at_first : ThreadState → Stand
runs_at_first t = Runs

abbrev pub started : Module → Launch → List ThreadState → Team
started m l threads = record {
  shared = record { common = first_common (with_captures (first_memory m l)); stands = map runs_at_first threads; slot = None; trapped = None };
  threads = threads;
}

abbrev pub team_start : Module → Launch → Team
team_start m l = started m l (first_threads m l (is_spmd m l))

-- ---- one step of thread n, which changes the state of no other thread

abbrev pub with_thread : Team → ℕ → ThreadState → Team
with_thread s n t = record s { threads = slice_set s.threads n t }

abbrev pub traps : Module → Team → ℕ → ThreadState → Trap → Team
traps m s n t trap = record s { shared = record s.shared { trapped = Some (record { thread = n; line = line_at m t; trap = trap }) } }

abbrev pub acts : Module → Team → ℕ → ThreadState → Result Effect Trap → Team
acts m s n t (Err trap) = traps m s n t trap
acts m s n t (Ok effect) = record { shared = record s.shared { common = effect.common }; threads = slice_set s.threads n (resumed m t effect.answer) }

-- in generic mode __kmpc_target_deinit sets the work slot to null, in SPMD mode it does nothing
abbrev pub slot_after_deinit : ThreadState → Option ℕ → Option ℕ
slot_after_deinit t slot = if t.answers.spmd == 1 then slot else None

-- ---- barriers

abbrev pub is_gone : Stand → Bool
is_gone Gone = true
is_gone _ = false

abbrev pub same_kind : Barrier → Barrier → Bool
same_kind Explicit Explicit = true
same_kind TeamBarrier TeamBarrier = true
same_kind Join Join = true
same_kind Guard Guard = true
same_kind _ _ = false

abbrev pub waits_at : Barrier → Stand → Bool
waits_at kind (Waits other) = same_kind kind other
waits_at kind _ = false

abbrev pub waits_or_gone : Stand → Bool
waits_or_gone stand = waits_at TeamBarrier stand || is_gone stand

-- so many region threads wait at the explicit barrier; every thread that has not ended waits at the team's; all threads wait at the others
abbrev pub is_complete : Barrier → ℕ → List Stand → Bool
is_complete Explicit count stands = length (filter (waits_at Explicit) stands) == count
is_complete TeamBarrier count stands = list_all waits_or_gone stands
is_complete kind count stands = list_all (waits_at kind) stands

abbrev pub goes_again : Barrier → Stand → Stand
goes_again kind stand = if waits_at kind stand then Runs else stand

-- a barrier that is complete opens in the same step; another kind never does
abbrev pub opened : Barrier → ℕ → List Stand → List Stand
opened kind count stands = if is_complete kind count stands then map (goes_again kind) stands else stands

-- thread n waits, and knows of how many threads the region is
abbrev pub arrives : Team → ℕ → ThreadState → Barrier → Option Phase → Team
arrives s n t kind phase = record {
  shared = record s.shared { stands = opened kind t.answers.count (slice_set s.shared.stands n (Waits kind)) };
  threads = slice_set s.threads n (arrived t phase);
}

-- ---- published work

-- the captured words are put into the capture area, from a word on
abbrev pub published : ℕ → List Ptr → Memory → Memory
published k [] m = m
published k (p ∷ ps) m = published (k + 1) ps (record m { bytes = put_bytes m.bytes Captures (8 * k) (pointer_bytes p) })

-- the words and the wrapper are published; the main thread has then to wake the workers
abbrev pub publishes : Team → ℕ → ThreadState → ℕ → List Ptr → Team
publishes s n t wrapper ps = record {
  shared = record s.shared { common = record s.shared.common { memory = published 0 ps s.shared.common.memory }; slot = Some wrapper };
  threads = slice_set s.threads n (arrived t (Some Published));
}

abbrev pub takes_work : Module → Team → ℕ → ThreadState → Result ThreadState Trap → Team
takes_work m s n t (Err trap) = traps m s n t trap
takes_work m s n t (Ok u) = with_thread s n u

-- ---- events

-- the end of a thread may complete the team's barrier
abbrev pub leaves : Team → ℕ → Team
leaves s n = record s { shared = record s.shared { stands = opened TeamBarrier 0 (slice_set s.shared.stands n Gone) } }

abbrev pub happens : Module → Team → ℕ → ThreadState → Event → Team
happens m s n t (Does action) = acts m s n t (Do action s.shared.common)
happens m s n t Deinit = record { shared = record s.shared { slot = slot_after_deinit t s.shared.slot }; threads = slice_set s.threads n (resumed m t None) }
happens m s n t (Forks function wrapper ps) = publishes s n t wrapper ps
happens m s n t (Arrives kind phase) = arrives s n t kind phase
happens m s n t AsksForWork = takes_work m s n t (given_work m t s.shared.slot)
happens m s n t Leaves = leaves s n

abbrev pub by_next : Module → Team → ℕ → ThreadState → NextStep → Option Team
by_next m s n t (Local u) = Some (with_thread s n u)
by_next m s n t (Pending event) = Some (happens m s n t event)
by_next m s n t Done = None
by_next m s n t (Trapped trap) = Some (traps m s n t trap)

abbrev pub by_thread : Module → Team → ℕ → Option ThreadState → Option Team
by_thread m s n None = None
by_thread m s n (Some t) = by_next m s n t (Next m t)

abbrev pub by_stand : Module → Team → ℕ → Option Stand → Option Team
by_stand m s n (Some Runs) = by_thread m s n (slice_get s.threads n)
by_stand m s n _ = None

abbrev pub unless_trapped : Option Trapping → Option Team → Option Team
unless_trapped None go = go
unless_trapped (Some t) go = None

-- the state after a step of a machine thread; none where there is no such thread, it has ended or waits, or the run has trapped
abbrev pub TeamStep : Module → Team → ℕ → Option Team
TeamStep m s n = unless_trapped s.shared.trapped (by_stand m s n (slice_get s.shared.stands n))

-- ---- ends and runs

abbrev pub is_held : Stand → Bool
is_held Runs = false
is_held _ = true

abbrev pub end_by : Option Trapping → Bool → Bool → End
end_by (Some t) all_gone all_held = TrappedEnd t.thread t.line t.trap
end_by None true all_held = Ended
end_by None false true = Stuck
end_by None false false = Running

-- trapped after a trap, ended when all threads have ended, stuck when it is neither and every thread that has not ended waits
abbrev pub team_end : Team → End
team_end s = end_by s.shared.trapped (list_all is_gone s.shared.stands) (list_all is_held s.shared.stands)

-- what is seen of the run, of which the input module names the globals
abbrev pub team_outcome : Module → Launch → Team → Outcome
team_outcome source l s = outcome_of source l s.shared.common

-- the state after a schedule, a list of machine threads; none where one isn't ready
abbrev pub TeamRun : Module → Launch → List ℕ → Option Team
TeamRun m l schedule = run (TeamStep m) schedule (team_start m l)

-- what the schedules of an optimised module come to
abbrev pub TeamSystem : Module → Module → Launch → ℕ → End → Outcome → Type 0
TeamSystem source out l = Comes (TeamStep out) (team_start out l) team_end (team_outcome source l)

-- ---- schedules as pairs

abbrev pub expanded : Pair → List ℕ
expanded p = replicate p.count p.thread

-- each pair stands for so many steps of its thread
abbrev pub Expand : List Pair → List ℕ
Expand pairs = flat_map expanded pairs
