use Rattle.std.proofs.Common.{◌≡◌, false, take}
use Rattle.std.specs.List.{list_any}
use Rattle.shapes.specs.Limits.{is_large}
use Rattle.shape_limits.proofs.sizes.+is_large.Given as goal

abbrev pub invariant-any_is_large-loop-ty : goal.invariant-any_is_large-loop-ty
invariant-any_is_large-loop-ty l = list_any (is_large l.m.types) (take l.ty-index l.tys) ≡ false
