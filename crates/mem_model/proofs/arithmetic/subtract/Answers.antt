use Rattle.std.proofs.Common.{◌-ℤ◌, arith}
use Rattle.std.proofs.lemmas.Int.{ints}
use Rattle.mem_model.proofs.Widths.{wrapped_difference, fits_difference}
use Rattle.mem_model.proofs.arithmetic.subtract.Goals as goal

pub returns : goal.returns
returns c =
    let h = c.checked.ensures (λ read. read c.args.a -ℤ read c.args.b) in
    let e1 = c.from.ensures in
    let e2 = c.from-2.ensures in
    let e3 = c.exact.ensures.value in
    let e4 = c.exact-2.ensures.value in
    let s3 = c.exact.ensures.small in
    let s4 = c.exact-2.ensures.small in
    let b = c.power.ensures in
    let w = wrapped_difference c.args.width c.args.a c.args.b c.requires.fits.1 in
    h (cc) (fits_difference _ _ _ c.requires.fits.0) (omega (arith, ints))
