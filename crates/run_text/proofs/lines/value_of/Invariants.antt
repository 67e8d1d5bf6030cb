use Rattle.std.proofs.Common.{◌≡◌, ◌≤◌, ◌^◌, drop}
use Rattle.ir_core.specs.Numbers.{value_from, value_of}
use Rattle.run_text.specs.Capped.{capped}
use Rattle.run_text.proofs.lines.value_of.Given as goal

abbrev pub invariant-loop-digit : goal.invariant-loop-digit
invariant-loop-digit l = (l.number ≤ 2 ^ 64) × (capped (value_from l.number (drop l.digit-index l.digits)) ≡ capped (value_of l.digits))
