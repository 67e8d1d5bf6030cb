use Rattle.std.proofs.Common.{ℕ, List, take}
use Rattle.std.specs.Str.{bytes_eq}
use Rattle.indexmap.specs.IndexMap.{get_by}
use Rattle.ir_tables.proofs.Places.{Fits, named}
use Rattle.ir_tables.proofs.table.Places.of.Given as goal

-- the map has the places of the types so far
abbrev pub invariant-loop-at : goal.invariant-loop-at
invariant-loop-at l = (x : List ℕ) → Fits l.types (get_by (λ k. bytes_eq x k.items) l.places) (named x (take l.at l.types))
