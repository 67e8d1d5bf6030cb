use Rattle.std.proofs.Common.{◌≡◌, refl}
use Rattle.ir_read.proofs.Least.{without_next, told_false}
use Rattle.ir_read.proofs.stopped.Stopped.construct.Goals as goal

pub loop-construct-preserved : goal.loop-construct-preserved
loop-construct-preserved c = record {
  all = refl;
  left = without_next c.args.self.now.front c.args.self.now.token c.loop-construct.construct-index _ c.loop-construct-test.true c.loop-construct.invariant.left (told_false _ c.in_ok-fits.field-0 c.if-branch.false c.in_ok-fits.ensures);
}
