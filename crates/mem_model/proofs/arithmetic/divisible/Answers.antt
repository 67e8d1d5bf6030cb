use Rattle.std.proofs.Common.{◌^◌, ◌≤◌, int_div, unsigned_abs, ◌∙◌, arith, rules}
use Rattle.std.specs.Int.{w128}
use Rattle.std.specs.Int.RustNames.{FitsSigned}
use Rattle.std.proofs.lemmas.Int.{ints}
use Rattle.mem_model.proofs.Widths.{quotient_back, divisible_is}
use Rattle.mem_model.proofs.arithmetic.divisible.Goals as goal

pub returns-then-b-ne0 : goal.returns-then-b-ne0
returns-then-b-ne0 c =
    let x = c.exact.result in
    let y = c.exact-then-b-ne0.result in
    let fx : FitsSigned w128 x = search rules in
    let fy : FitsSigned w128 y = search rules in
    let s = c.exact.ensures.small in
    let small : unsigned_abs x ≤ 2 ^ 64 = omega (arith, ints) in
    let same = quotient_back x y fx fy small ∙ (λ i. int_div (c.exact.ensures.value i) (c.exact-then-b-ne0.ensures.value i)) in
    divisible_is c.args.width c.args.b _ _ _ c.if-b-ne0.true c.fits_signed.ensures same
