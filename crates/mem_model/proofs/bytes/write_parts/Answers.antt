use Rattle.std.proofs.Common.{arith}
use Rattle.mem_model.proofs.Spelling.{parts_more}
use Rattle.mem_model.proofs.bytes.write_parts.Goals as goal

pub loop-i-preserved : goal.loop-i-preserved
loop-i-preserved c = parts_more c.loop-i.bytes c.loop-i.i c.args.pointer (omega arith) c.loop-i.invariant
