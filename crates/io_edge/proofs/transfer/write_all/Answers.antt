use Rattle.std.proofs.Common.{arith, length-drop, length-take}
use Rattle.io_edge.proofs.Bytes.{grows_by_slice}
use Rattle.io_edge.proofs.transfer.write_all.Goals as goal

pub loop-written-preserved : goal.loop-written-preserved
loop-written-preserved g c = record {
  within = grind (arith, length-drop, length-take);
  taken = grows_by_slice _ _ _ c.args.bytes.now c.loop-written.written c.in_ok-written.field-0 c.loop-written.invariant.within c.loop-written.invariant.taken c.in_ok-written.ensures.takes;
  later = omega arith;
}
