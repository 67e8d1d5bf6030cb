use Rattle.std.proofs.Common.{◌≡◌, ◌++◌, ◌-◌}
use Rattle.mem_model.specs.Words.{number_bytes}
use Rattle.first_memory.proofs.contents.add_number.Given as goal

abbrev pub invariant-loop-turn : goal.invariant-loop-turn
invariant-loop-turn l = l.out.items ++ number_bytes (l.size - l._turn) l.rest ≡ l.fn.out.items ++ number_bytes l.size l.number
