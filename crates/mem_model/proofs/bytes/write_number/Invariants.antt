use Rattle.std.proofs.Common.{◌≡◌, ◌-◌, ◌++◌, length, take}
use Rattle.mem_model.specs.Words.{number_bytes}
use Rattle.mem_model.proofs.bytes.write_number.Given as goal

abbrev pub invariant-loop-i : goal.invariant-loop-i
invariant-loop-i l = take l.i l.bytes ++ number_bytes (length l.bytes - l.i) l.rest ≡ number_bytes (length l.bytes) l.number
