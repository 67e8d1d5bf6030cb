use Rattle.std.proofs.Common.{◌≡◌, drop}
use Rattle.mem_model.specs.Words.{are_parts}
use Rattle.mem_model.proofs.bytes.are_parts.Given as goal

abbrev pub invariant-loop-i : goal.invariant-loop-i
invariant-loop-i l = are_parts l.pointer l.i (drop l.i l.bytes) ≡ are_parts l.pointer 0 l.bytes
