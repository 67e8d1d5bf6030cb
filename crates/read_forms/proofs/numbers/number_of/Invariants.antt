use Rattle.std.proofs.Common.{◌≡◌, ◌<◌, ◌^◌, drop}
use Rattle.ir_core.specs.Numbers.{value_of, value_from}
use Rattle.read_forms.proofs.numbers.number_of.Given as goal

abbrev pub invariant-loop-digit : goal.invariant-loop-digit
invariant-loop-digit l = (l.number < 2 ^ 64) × (value_from l.number (drop l.digit-index l.digits) ≡ value_of l.digits)
