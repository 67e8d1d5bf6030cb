use Rattle.std.proofs.Common.{◌-◌, arith}
use Rattle.std.proofs.lemmas.Nat.{one_shl}
use Rattle.ir_print.proofs.Signed.{plain_at_zero, plain_when_wide, signed_when_high, plain_when_above}
use Rattle.ir_print.proofs.operands.below_zero.Goals as goal
use Rattle.ir_print.proofs.operands.below_zero.Goals.{then-width-eq0-via-then-width-eq0, then-width-eq0-via-else-width-eq0+then-width-gt64}

pub returns-then-width-eq0 : goal.returns-then-width-eq0
returns-then-width-eq0 c = elim c.then-width-eq0.branch [ then-width-eq0-via-then-width-eq0 w ↦ plain_at_zero c.args.width c.args.number (omega arith) | then-width-eq0-via-else-width-eq0+then-width-gt64 w ↦ plain_when_wide c.args.width c.args.number (omega arith) (omega arith) ]

pub returns-then-over-half : goal.returns-then-over-half
returns-then-over-half c = signed_when_high c.args.width c.args.number _ (omega arith) (one_shl (c.args.width - 1) 64 (omega arith)) (omega arith) (omega arith)

pub returns-else-over-half : goal.returns-else-over-half
returns-else-over-half c = plain_when_above c.args.width c.args.number _ (omega arith) (one_shl (c.args.width - 1) 64 (omega arith)) (omega arith)
