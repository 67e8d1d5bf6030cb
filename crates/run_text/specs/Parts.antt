-- Parts of a report's text.
use Rattle.std.specs.Prelude.{ℕ, List, ◌++◌, length, codes, decimal}
use Rattle.std.specs.List.{flat_map}
use Rattle.mem_model.specs.declared.memory.Byte.{Byte}
use Rattle.mem_model.specs.declared.step.Trap.{Trap}
use Rattle.team_model.specs.declared.Pair.{Pair}
use Rattle.run_text.specs.declared.report.RunMode.{RunMode}
use Rattle.run_text.specs.declared.report.ReportEnd.{ReportEnd}
use Rattle.run_text.specs.declared.report.ReportEnd.TheVariants.{Trapped}
use Rattle.run_text.specs.ReportText.{line_of, mode_text, end_text, bytes_text, pair_line}

abbrev pub trapped_text : RunMode → ℕ → ℕ → ℕ → Trap → List ℕ
trapped_text mode threads thread line trap = end_text mode threads (Trapped thread line trap)

abbrev pub buffer_text : ℕ → List Byte → List ℕ
buffer_text place bytes = line_of (codes "memory " ++ decimal place ++ bytes_text bytes)

abbrev pub head_text : RunMode → ℕ → ReportEnd → List ℕ
head_text mode threads end = line_of (codes "mode " ++ mode_text mode) ++ line_of (codes "end " ++ end_text mode threads end)

abbrev pub schedule_text : RunMode → ℕ → List Pair → List ℕ
schedule_text mode threads pairs = line_of (codes "schedule " ++ decimal (length pairs)) ++ flat_map (pair_line mode threads) pairs
