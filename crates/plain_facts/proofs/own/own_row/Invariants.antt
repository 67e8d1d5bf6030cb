use Rattle.std.proofs.Common.{take}
use Rattle.plain_facts.specs.Uses.{AreOwn}
use Rattle.plain_facts.proofs.own.own_row.Given as goal

abbrev pub invariant-loop-used : goal.invariant-loop-used
invariant-loop-used l = AreOwn l.count (take l.used-index l.uses) l.row.items
