use Rattle.std.proofs.Common.{◌≡◌, ℤ, ◌*ℤ◌, Some, None, ap, sym, ◌∙◌, rules}
use Rattle.std.specs.Int.{int_wrap, w64}
use Rattle.std.specs.Int.RustNames.{FitsSigned}
use Rattle.std.proofs.lemmas.Int.{wrapping_mul_is, wrapping_add_is, to_z-of_z}
use Rattle.ir_tables.specs.Named.{parts_by}
use Rattle.ir_tables.specs.Walk.{step_into}
use Rattle.ir_tables.proofs.Walks.{first_into, next_into, none_into}
use Rattle.ir_tables.proofs.offsets.walk_into.Goals as goal

pub returns-in-None : goal.returns-in-None
returns-in-None c = λ types serves well.
    let stride_fits : FitsSigned w64 c.stride.result = search rules in
    first_into types c.args.named serves c.args.walk c.args.index _ c.in-None.is (wrapping_mul_is w64 c.args.index c.stride.result c.ranges.index stride_fits ∙ ap (λ (s : ℤ). int_wrap w64 (c.args.index *ℤ s)) c.stride.ensures) well

pub returns-in_ok-distance-in-Some : goal.returns-in_ok-distance-in-Some
returns-in_ok-distance-in-Some c = λ types serves well.
    let sum = c.in-Some.sum in
    let distance = c.in_ok-distance-in-Some.distance in
    let sum_fits : FitsSigned w64 sum = search rules in
    let distance_fits : FitsSigned w64 distance = search rules in
    let step = c.in_ok-distance-in-Some.ensures ∙ ap (λ (i : ℤ). step_into c.args.named i (parts_by c.args.named c.args.walk.inner.now)) (to_z-of_z w64 c.args.index c.ranges.index) in
    next_into types c.args.named serves c.args.walk c.in_ok-distance-in-Some.part c.args.index sum distance _ c.in-Some.is step (wrapping_add_is w64 sum distance sum_fits distance_fits) well
