use Rattle.std.proofs.Common.{◌≤◌, drop, length}
use Rattle.item_names.specs.Repeated.{entries_seen, HasEarliest}
use Rattle.item_names.proofs.repeated.firsts_of.Given as goal

-- the table has the entries from a place on
abbrev pub invariant-loop-at : goal.invariant-loop-at
invariant-loop-at l = record {
  within : l.at ≤ length l.entries;
  firsts : HasEarliest l.at (entries_seen (drop l.at l.entries)) l.table;
}

abbrev pub decreases-loop-at : goal.decreases-loop-at
decreases-loop-at l = l.at
