use Rattle.std.proofs.Common.{◌≡◌, ◌++◌, ◌-◌}
use Rattle.mem_model.specs.Words.{parts_from}
use Rattle.first_memory.proofs.contents.add_parts.Given as goal

abbrev pub invariant-loop-part : goal.invariant-loop-part
invariant-loop-part l = l.out.items ++ parts_from (8 - l.part) l.part l.pointer ≡ l.fn.out.items ++ parts_from 8 0 l.pointer
