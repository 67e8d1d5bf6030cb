use Rattle.std.proofs.Common.{◌≡◌, ◌++◌, take}
use Rattle.std.specs.List.{flat_map}
use Rattle.ir_core.specs.Given.{names_in}
use Rattle.item_names.specs.Circles.{found_places}
use Rattle.item_names.proofs.parts.+add_parts.Given as goal

abbrev pub invariant-add_parts_of-loop-ty : goal.invariant-add_parts_of-loop-ty
invariant-add_parts_of-loop-ty l = l.parts ≡ l.initial.parts ++ flat_map (λ ty. found_places l.names (names_in ty)) (take l.ty-index l.tys)
