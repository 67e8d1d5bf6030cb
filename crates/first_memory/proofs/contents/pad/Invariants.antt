use Rattle.std.proofs.Common.{◌≡◌, ◌++◌, replicate}
use Rattle.mem_model.specs.declared.memory.Byte.TheVariants.{Num}
use Rattle.first_memory.proofs.contents.pad.Given as goal

abbrev pub invariant-loop-turn : goal.invariant-loop-turn
invariant-loop-turn l = l.out.items ≡ l.fn.out.items ++ replicate l._turn (Num 0)
