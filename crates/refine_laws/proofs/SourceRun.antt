-- The example's source, run over any memory that has its buffer.
use Rattle.std.proofs.Common.{[], ◌∷◌, true, Option, Result, Ok, refl, ap}
use Rattle.mem_model.specs.declared.step.End.TheVariants.{Ended}
use Rattle.mem_model.specs.declared.step.Trap.{Trap}
use Rattle.mem_model.specs.Memory.{Memory}
use Rattle.mem_model.specs.Do.{stored}
use Rattle.mem_model.specs.Runs.{run, Comes}
use Rattle.mem_model.specs.Launching.{first_memory, first_common}
use Rattle.source_model.specs.declared.Choice.TheVariants.{Main}
use Rattle.source_model.specs.Source.{SourceState, SourceSystem, SourceStep, source_start, source_end, source_outcome, acts}
use Rattle.refine_laws.specs.Example.{example, launch, result_of_run}
use Rattle.refine_laws.proofs.Stored.{HasBuffer, with_seven, goes, shows, first_has, outcome_with, some_or}

abbrev source_from : Memory → SourceState
source_from m = record (source_start (example true) launch 0) { common = first_common m }

-- the state before the store
abbrev before : Memory → SourceState
before m = some_or (source_from m) (run (SourceStep (example true)) (Main ∷ Main ∷ Main ∷ []) (source_from m))

-- the run from the store on, by what the store gives
abbrev from_store : Memory → Result Memory Trap → Option SourceState
from_store m r = run (SourceStep (example true)) (Main ∷ Main ∷ []) (acts (example true) (before m) Main (before m).main (stored (first_common m) r))

abbrev last : Memory → Memory → SourceState
last m after = some_or (source_from m) (from_store m (Ok after))

source_comes : (m : Memory) → HasBuffer m → Comes (SourceStep (example true)) (source_from m) (source_end (example true)) (source_outcome (example true) launch) 6 Ended result_of_run
source_comes m e = (Main ∷ Main ∷ Main ∷ Main ∷ Main ∷ Main ∷ [], last m (with_seven m), refl, ap (from_store m) (goes m e), refl, ap outcome_with (shows m e))

pub source_ends : SourceSystem (example true) launch 0 6 Ended result_of_run
source_ends = source_comes (first_memory (example true) launch) (first_has true)
