use Rattle.std.proofs.Common.{◌≡◌, drop}
use Rattle.ir_read.specs.Probes.{has_digit_above_zero}
use Rattle.ir_read.proofs.fits.has_digit_above_zero.Given as goal

abbrev pub invariant-loop-digit : goal.invariant-loop-digit
invariant-loop-digit l = has_digit_above_zero (drop l.digit-index l.digits) ≡ has_digit_above_zero l.digits
