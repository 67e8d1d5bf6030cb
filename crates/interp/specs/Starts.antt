-- The first states of a team's threads, part by part.
use Rattle.std.specs.Prelude.{◌≡◌, ℕ, List, map, length, replicate, Bool, true, false, Option, None, slice_get}
use Rattle.ir_core.specs.declared.module.Module.{Module}
use Rattle.ir_core.specs.Places.{register_names}
use Rattle.mem_model.specs.declared.launch.Launch.{Launch}
use Rattle.mem_model.specs.declared.memory.Word.{Word}
use Rattle.mem_model.specs.Memory.{Memory}
use Rattle.mem_model.specs.Thread.{ThreadState}
use Rattle.mem_model.specs.Launching.{params_of, arg_words, first_common}
use Rattle.team_model.specs.declared.Stand.TheVariants.{Runs}
use Rattle.team_model.specs.Team.{TeamShared, worker, spmd_thread}
use Rattle.thread_state.specs.declared.state.ThreadState.{ThreadState as ThreadData}
use Rattle.thread_state.specs.Seen.{thread_seen}
use Rattle.interp_local.specs.Calls.{put_words}
use Rattle.interp.specs.Teams.{AreThreads}

-- these states stand for those
abbrev pub AreSeen : Module → List ThreadData → List ThreadState → Type 0
AreSeen m ss ts = AreThreads m ss × (map (thread_seen m) ss ≡ ts)

-- the words of the arguments in the registers of the function at a place, as many as it has parameters
abbrev pub kernel_values : Module → Launch → ℕ → List (Option Word)
kernel_values m l k = put_words (length (params_of (slice_get m.functions k))) (arg_words 0 l.args) (replicate (length (register_names m k)) None)

-- a thread of an SPMD kernel, or a worker of a generic one
abbrev pub numbered_thread : Module → Launch → Bool → ℕ → ThreadState
numbered_thread m l true = spmd_thread m l
numbered_thread m l false = worker m l

-- what so many threads share before their first step
abbrev pub first_shared : Memory → ℕ → TeamShared
first_shared memory count = record { common = first_common memory; stands = replicate count Runs; slot = None; trapped = None }
