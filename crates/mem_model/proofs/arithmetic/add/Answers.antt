use Rattle.std.proofs.Common.{◌+ℤ◌, arith}
use Rattle.std.proofs.lemmas.Bool.Decides.{nat_tests}
use Rattle.std.proofs.lemmas.Int.{ints}
use Rattle.mem_model.proofs.arithmetic.add.Goals as goal

pub returns : goal.returns
returns c =
    let h = c.checked.ensures (λ read. read c.args.a +ℤ read c.args.b) in
    let e1 = c.from.ensures in
    let e2 = c.from-2.ensures in
    let e3 = c.exact.ensures.value in
    let e4 = c.exact-2.ensures.value in
    let s3 = c.exact.ensures.small in
    let s4 = c.exact-2.ensures.small in
    let b = c.power.ensures in
    h (cc) (grind (arith, nat_tests)) (omega (arith, ints))
