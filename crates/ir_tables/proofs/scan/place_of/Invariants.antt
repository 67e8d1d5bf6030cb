use Rattle.std.proofs.Common.{◌≡◌, drop, map}
use Rattle.ir_core.specs.Places.{place_from, place_in}
use Rattle.ir_tables.proofs.scan.place_of.Given as goal

-- the place among the rest is the place among all
abbrev pub invariant-loop-at : goal.invariant-loop-at
invariant-loop-at g l = place_from l.at (map g.T.HasName.name_of (drop l.at l.items)) l.name ≡ place_in (map g.T.HasName.name_of l.items) l.name
