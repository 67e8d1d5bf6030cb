use Rattle.std.proofs.Common.{◌≡◌, [], take, map}
use Rattle.ir_core.specs.NameRefusals.{repeated, least}
use Rattle.name_tables.specs.Kept.{all_seen}
use Rattle.name_tables.specs.Repeated.{kept_entry}
use Rattle.name_tables.proofs.locals.repeated.Given as goal

abbrev pub invariant-loop-at : goal.invariant-loop-at
invariant-loop-at l = l.found ≡ least (repeated [] (map kept_entry (all_seen (take l.at l.names))))
