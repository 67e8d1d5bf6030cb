-- The example's team with its machine off, run over any memory that has its buffer.
use Rattle.std.proofs.Common.{List, [], ◌∷◌, length, true, false, Option, None, Result, Ok, slice_get, replicate, refl, ap, ◌∙◌}
use Rattle.mem_model.specs.declared.memory.BlockName.TheVariants.{Captures}
use Rattle.mem_model.specs.declared.memory.Byte.{Byte}
use Rattle.mem_model.specs.declared.memory.Byte.TheVariants.{Num}
use Rattle.mem_model.specs.declared.step.End.TheVariants.{Ended}
use Rattle.mem_model.specs.declared.step.Trap.{Trap}
use Rattle.mem_model.specs.Memory.{Memory, with_block}
use Rattle.mem_model.specs.Thread.{ThreadState}
use Rattle.mem_model.specs.Do.{stored}
use Rattle.mem_model.specs.Runs.{run, Comes}
use Rattle.mem_model.specs.Launching.{idle_thread, first_memory, first_common}
use Rattle.team_model.specs.declared.Stand.TheVariants.{Runs}
use Rattle.team_model.specs.Team.{Team, TeamSystem, answers_at, minus_one, role, first_threads, with_captures, TeamStep, team_end, team_outcome, acts}
use Rattle.refine_laws.specs.Example.{example, launch, result_of_run}
use Rattle.refine_laws.proofs.Stored.{HasBuffer, with_seven, goes, shows, stays, first_has, outcome_with, some_or}

abbrev team_from : Memory → Team
team_from m = record {
  shared = record { common = first_common m; stands = Runs ∷ Runs ∷ []; slot = None; trapped = None };
  threads = first_threads (example false) launch false;
}

abbrev team_before : Memory → Team
team_before m = some_or (team_from m) (run (TeamStep (example false)) (1 ∷ 1 ∷ 1 ∷ []) (team_from m))

abbrev no_thread : ThreadState
no_thread = idle_thread (role launch false 1) (answers_at minus_one 0)

-- the main thread before the store
abbrev main_thread : Memory → ThreadState
main_thread m = some_or no_thread (slice_get (team_before m).threads 1)

abbrev team_from_store : Memory → Result Memory Trap → Option Team
team_from_store m r = run (TeamStep (example false)) (1 ∷ 1 ∷ 0 ∷ 0 ∷ 0 ∷ 0 ∷ []) (acts (example false) (team_before m) 1 (main_thread m) (stored (first_common m) r))

abbrev team_last : Memory → Memory → Team
team_last m after = some_or (team_from m) (team_from_store m (Ok after))

team_comes : (m : Memory) → HasBuffer m → Comes (TeamStep (example false)) (team_from m) team_end (team_outcome (example true) launch) 10 Ended result_of_run
team_comes m e = (1 ∷ 1 ∷ 1 ∷ 1 ∷ 1 ∷ 1 ∷ 0 ∷ 0 ∷ 0 ∷ 0 ∷ [], team_last m (with_seven m), refl, ap (team_from_store m) (goes m e), refl, ap outcome_with (shows m e))

-- the capture area keeps the buffer, whatever its bytes
captures_keep : (m : Memory) (bytes : List Byte) → HasBuffer m → HasBuffer (with_block m Captures false bytes)
captures_keep m bytes e = stays m.blocks (record { size = length bytes; constant = false; released = false }) ∙ e

pub team_ends : TeamSystem (example true) (example false) launch 10 Ended result_of_run
team_ends = let memory = first_memory (example false) launch in team_comes (with_captures memory) (captures_keep memory (replicate 512 (Num 0)) (first_has false))
