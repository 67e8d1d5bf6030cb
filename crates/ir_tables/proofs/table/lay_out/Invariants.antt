use Rattle.std.proofs.Common.{◌-◌, length}
use Rattle.ir_tables.specs.Table.{IsSound, count}
use Rattle.ir_tables.proofs.table.lay_out.Given as goal

abbrev pub invariant-loop-at : goal.invariant-loop-at
invariant-loop-at l = IsSound l.types l.table

abbrev pub invariant-loop : goal.invariant-loop
invariant-loop l = IsSound l.types l.table

abbrev pub decreases-loop : goal.decreases-loop
decreases-loop l = length l.types - count l.table.known
