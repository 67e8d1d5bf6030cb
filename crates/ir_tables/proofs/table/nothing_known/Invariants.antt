use Rattle.std.proofs.Common.{◌≡◌, length}
use Rattle.ir_tables.specs.Table.{count}
use Rattle.ir_tables.proofs.table.nothing_known.Given as goal

abbrev pub invariant-loop : goal.invariant-loop
invariant-loop l = record {
  size : length l.known ≡ l.counter;
  none : count l.known ≡ 0;
}
