use Rattle.std.proofs.Common.{◌^◌, ◌%◌, ap, ◌∙◌}
use Rattle.mem_model.proofs.Widths.{wrapped_bits}
use Rattle.mem_model.proofs.arithmetic.wrapped.Goals as goal

pub returns-clause-value : goal.returns-clause-value
returns-clause-value c = c.low_bits.ensures ∙ ap (λ n. n % 2 ^ c.args.width) c.cast_unsigned.ensures ∙ wrapped_bits c.args.width c.args.z c.requires c.ranges.z
