use Rattle.std.proofs.Common.{◌≡◌, ◌-◌, ◌^◌, ◌<◌, length, drop, Some}
use Rattle.mem_model.specs.Words.{number_in}
use Rattle.mem_model.proofs.bytes.number_in.Given as goal

abbrev pub invariant-loop-i : goal.invariant-loop-i
invariant-loop-i l = record { spells : number_in (drop l.i l.bytes) ≡ Some l.number; small : l.number < 256 ^ (length l.bytes - l.i) }
