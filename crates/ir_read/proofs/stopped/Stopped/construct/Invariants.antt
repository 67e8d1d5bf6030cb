use Rattle.std.proofs.Common.{◌≡◌, drop}
use Rattle.ir_read.specs.Probes.{constructs}
use Rattle.ir_read.proofs.Least.{AreLeft}
use Rattle.ir_read.proofs.stopped.Stopped.construct.Given as goal

abbrev pub invariant-loop-construct : goal.invariant-loop-construct
invariant-loop-construct l = record {
  all : l.construct-items ≡ constructs;
  left : AreLeft l.self.front l.self.token (drop l.construct-index l.construct-items);
}
