use Rattle.std.proofs.Common.{◌*◌, ap, ◌∙◌}
use Rattle.mem_model.specs.Eval as spec
use Rattle.mem_model.proofs.Widths.{fits_number, product_back}
use Rattle.mem_model.proofs.arithmetic.multiplied.Goals as goal

pub returns : goal.returns
returns c = λ value whole signed.
    let e1 = c.from.ensures in
    let e2 = c.from-2.ensures in
    let b = c.power.ensures in
    let fits = fits_number c.args.width (c.args.a * c.args.by) in
    let back = product_back c.exact.result c.args.signed_by c.exact.ensures.small c.requires.small c.ranges.signed_by in
    let e3 = c.exact.ensures.value in
    c.checked.ensures value (ap (spec.wrapped c.args.width) whole ∙ cc) (ap (spec.fits_unsigned c.args.width) whole ∙ cc) cc
