use Rattle.std.proofs.Common.{◌≡◌, ◌-◌, ◌++◌, length, take}
use Rattle.mem_model.specs.Words.{parts_from}
use Rattle.mem_model.proofs.bytes.write_parts.Given as goal

abbrev pub invariant-loop-i : goal.invariant-loop-i
invariant-loop-i l = take l.i l.bytes ++ parts_from (length l.bytes - l.i) l.i l.pointer ≡ parts_from (length l.bytes) 0 l.pointer
