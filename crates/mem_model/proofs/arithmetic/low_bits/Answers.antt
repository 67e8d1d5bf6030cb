use Rattle.std.proofs.Common.{◌-◌, ap, ◌∙◌, bit_and}
use Rattle.std.proofs.lemmas.Nat.{and_mask}
use Rattle.mem_model.proofs.arithmetic.low_bits.Goals as goal

pub returns : goal.returns
returns c = ap (λ p. bit_and c.args.n (p - 1)) c.power.ensures ∙ and_mask c.args.n c.args.width
