use Rattle.std.proofs.Common.{◌≡◌, ◌*◌, ◌^◌, pos, ◌*ℤ◌, sym, ap, to_z, ◌∙◌, arith}
use Rattle.std.specs.Int.{w128}
use Rattle.std.proofs.lemmas.Nat.{pow_below}
use Rattle.std.proofs.lemmas.Int.{ints}
use Rattle.mem_model.specs.Eval as spec
use Rattle.mem_model.proofs.Widths.{width_bounds, shift_goes}
use Rattle.mem_model.proofs.arithmetic.shift_left.Goals as goal

pub returns : goal.returns
returns c =
    let e1 = c.power-by.ensures in
    let e2 = c.from.ensures in
    let bounds = width_bounds c.args.width c.requires.width in
    let below = pow_below c.args.b 64 (omega arith) in
    let plain : to_z w128 c.power-by.result ≡ pos (2 ^ c.args.b) = omega (arith, ints) in
    c.multiplied.ensures (λ read. read c.args.a *ℤ pos (2 ^ c.args.b)) (ap (λ n. pos (c.args.a * n)) (sym e1)) (ap (λ z. spec.signed c.args.width c.args.a *ℤ z) (sym plain))
    ∙ sym (shift_goes c.args.width c.args.b _ (omega arith))
