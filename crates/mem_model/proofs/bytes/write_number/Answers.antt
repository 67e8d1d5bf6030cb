use Rattle.std.proofs.Common.{arith}
use Rattle.mem_model.proofs.Spelling.{number_more}
use Rattle.mem_model.proofs.bytes.write_number.Goals as goal

pub loop-i-preserved : goal.loop-i-preserved
loop-i-preserved c = number_more c.loop-i.bytes c.loop-i.i c.loop-i.rest c.args.number (omega arith) c.loop-i.invariant
