-- Which pairs of a thread and its steps a text spells, or its first fault.
use Rattle.std.specs.Prelude.{ℕ, List, [], ◌∷◌, length, Option, Some, None, Result, Ok, Err, ◌&&◌, ◌==◌, nat_lt, nat_le, if◌then◌else◌}
use Rattle.mem_model.specs.Launching.{steps_limit}
use Rattle.team_model.specs.declared.Pair.{Pair}
use Rattle.run_text.specs.declared.schedule.ScheduleFaultKind.{ScheduleFaultKind}
use Rattle.run_text.specs.declared.schedule.ScheduleFaultKind.TheVariants.{LineForm, ThreadRange, TextSize}
use Rattle.run_text.specs.declared.schedule.ScheduleFault.{ScheduleFault}
use Rattle.run_text.specs.Lines.{Line, lines, numbered, numeral}

-- 33,554,432 bytes
unfoldable pub schedule_limit : ℕ
schedule_limit = 33554432

abbrev pub onto_first : ℕ → Option (List ℕ × List ℕ) → Option (List ℕ × List ℕ)
onto_first c None = None
onto_first c (Some parts) = Some (c ∷ parts.0, parts.1)

-- what stands before the first space, and what behind it
abbrev pub parted : List ℕ → Option (List ℕ × List ℕ)
parted [] = None
parted (c ∷ cs) = if c == 32 then Some ([], cs) else onto_first c (parted cs)

-- a thread below the number of threads makes at least one step, and no more than a run may have
abbrev pub pair_of : ℕ → Option ℕ → Option ℕ → Result Pair ScheduleFaultKind
pair_of threads (Some thread) (Some count) =
    if nat_le 1 count && nat_le count steps_limit then (if nat_lt thread threads then Ok (record { thread = thread; count = count }) else Err ThreadRange) else Err LineForm
pair_of threads _ _ = Err LineForm

abbrev pub pair_in : ℕ → Option (List ℕ × List ℕ) → Result Pair ScheduleFaultKind
pair_in threads None = Err LineForm
pair_in threads (Some parts) = pair_of threads (numeral parts.0) (numeral parts.1)

abbrev pub fault_at : ℕ → ScheduleFaultKind → ScheduleFault
fault_at line fault = record { fault = fault; line = line; step = 0 }

abbrev pub and_more : ℕ → Result Pair ScheduleFaultKind → Result (List Pair) ScheduleFault → Result (List Pair) ScheduleFault
and_more line (Err fault) pairs = Err (fault_at line fault)
and_more line (Ok pair) (Err fault) = Err fault
and_more line (Ok pair) (Ok pairs) = Ok (pair ∷ pairs)

-- a line is T C
abbrev pub pairs_in : ℕ → List Line → Result (List Pair) ScheduleFault
pairs_in threads [] = Ok []
pairs_in threads (l ∷ ls) = and_more l.number (pair_in threads (parted l.bytes)) (pairs_in threads ls)

-- the pairs for so many machine threads, or the fault: first the size of the text, then the first line with a fault
abbrev pub PairsOf : List ℕ → ℕ → Result (List Pair) ScheduleFault
PairsOf text threads = if nat_lt schedule_limit (length text) then Err (fault_at 1 TextSize) else pairs_in threads (numbered 1 (lines text))
