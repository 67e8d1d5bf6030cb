use Rattle.std.proofs.Common.{take}
use Rattle.ir_tables.specs.Names.{names_seen, HasPlaces}
use Rattle.ir_tables.proofs.names.table_of.Given as goal

-- the table has the names so far
abbrev pub invariant-loop-at : goal.invariant-loop-at
invariant-loop-at l = HasPlaces (names_seen (take l.at l.names)) l.table
