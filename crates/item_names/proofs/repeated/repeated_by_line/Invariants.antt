use Rattle.std.proofs.Common.{◌≡◌, ℕ, List, [], take, drop}
use Rattle.std.specs.List.{list_any}
use Rattle.ir_core.specs.Places.{Name}
use Rattle.ir_core.specs.NameRefusals.{least, repeated_by_line, is_behind}
use Rattle.name_tables.specs.Least.{or_first}
use Rattle.item_names.specs.Repeated.{entries_seen}
use Rattle.item_names.proofs.repeated.repeated_by_line.Given as goal

-- with what is found, the rest says what all say
abbrev pub invariant-loop-at : goal.invariant-loop-at
invariant-loop-at l =
    (before : List (Name × ℕ)) × ((n : Name × ℕ) → list_any (is_behind n) before ≡ list_any (is_behind n) (entries_seen (take l.at l.entries)))
    × (or_first l.found (least (repeated_by_line before (entries_seen (drop l.at l.entries)))) ≡ least (repeated_by_line [] (entries_seen l.entries)))
