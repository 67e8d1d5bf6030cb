use Rattle.std.proofs.Common.{◌<◌, ◌≤◌, ◌^◌, sym, arith}
use Rattle.std.proofs.Math.Pow.{pow_mono}
use Rattle.std.proofs.lemmas.Bool.{lt-ltb, le-leb}
use Rattle.name_tables.proofs.scalars.is_number_of.Goals as goal

pub returns-then-width-ge64 : goal.returns-then-width-ge64
returns-then-width-ge64 c =
    let wide : 64 ≤ c.in-Int.width = c.if-width-ge64.true in
    let power = pow_mono wide in
    let small : c.args.n < 2 ^ c.in-Int.width = omega (arith, power, c.ranges.n.fits) in
    rw (c.in-Int.is, le-leb 64 c.in-Int.width wide) (sym (lt-ltb c.args.n (2 ^ c.in-Int.width) small))
