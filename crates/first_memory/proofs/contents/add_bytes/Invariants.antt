use Rattle.std.proofs.Common.{◌≡◌, ◌++◌, map, take}
use Rattle.mem_model.specs.declared.memory.Byte.TheVariants.{Num}
use Rattle.first_memory.proofs.contents.add_bytes.Given as goal

abbrev pub invariant-loop-byte : goal.invariant-loop-byte
invariant-loop-byte l = l.out.items ≡ l.fn.out.items ++ map Num (take l.byte-index l.bytes)
