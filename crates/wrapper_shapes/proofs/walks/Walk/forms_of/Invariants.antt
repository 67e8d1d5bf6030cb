use Rattle.std.proofs.Common.{◌≡◌, ◌++◌, option_map, drop}
use Rattle.shapes.specs.Walk as spec
use Rattle.wrapper_shapes.specs.Seen.{forms_seen, walk_seen}
use Rattle.wrapper_shapes.proofs.walks.Walk.forms_of.Given as goal

abbrev pub invariant-loop-place : goal.invariant-loop-place
invariant-loop-place l = spec.forms_from (walk_seen l.self) 0 l.words ≡ option_map (λ fs. forms_seen l.forms ++ fs) (spec.forms_from (walk_seen l.self) l.place (drop l.place l.words))
