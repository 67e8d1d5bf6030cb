use Rattle.std.proofs.Common.{nat_lt, ap, sym, ◌∙◌, arith}
use Rattle.ir_core.specs.Layout.{Size}
use Rattle.shape_limits.proofs.LimitLaws.{below_cut}
use Rattle.shape_limits.proofs.sizes.is_too_long.Goals as goal

pub returns : goal.returns
returns c =
    let near = c.size_limit.ensures.near in
    let size = Size c.args.m.now.types c.args.ty.now in
    ap (nat_lt c.size_limit.result) c.size_of.ensures ∙ below_cut c.size_limit.result size 18446744073709551615 (omega arith) ∙ ap (λ n. nat_lt n size) c.size_limit.ensures.value
