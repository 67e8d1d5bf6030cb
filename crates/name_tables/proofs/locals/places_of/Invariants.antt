use Rattle.std.proofs.Common.{◌≡◌, take, map}
use Rattle.ir_tables.specs.Names.{names_seen}
use Rattle.name_tables.specs.Kept.{all_seen, kept_name}
use Rattle.name_tables.proofs.locals.places_of.Given as goal

abbrev pub invariant-loop-name : goal.invariant-loop-name
invariant-loop-name l = names_seen l.slices ≡ map kept_name (all_seen (take l.name-index l.names))
