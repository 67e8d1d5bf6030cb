use Rattle.ir_tables.specs.Table.{IsSound}
use Rattle.ir_tables.proofs.Growth.{GrowsUpTo}
use Rattle.ir_tables.proofs.table.lay_out_more.Given as goal

abbrev pub invariant-loop-at : goal.invariant-loop-at
invariant-loop-at l = record {
  sound : IsSound l.types l.table;
  grows : GrowsUpTo l.types l.at l.initial.table l.table l.some;
}
