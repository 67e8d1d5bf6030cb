use Rattle.std.proofs.Common.{refl}
use Rattle.mem_model.specs.Memory.{Release}
use Rattle.mem_model.specs.Next.{Releases}
use Rattle.interp.proofs.Happens.{not_stored}
use Rattle.interp.proofs.heaps.release.Goals as goal

pub returns-in-Err : goal.returns-in-Err
returns-in-Err c = λ m x f rest here.
    not_stored m c.args.here.thread c.args.here.line c.args.sh.now c.traps.new.sh c.args.s.now (Releases c.args.at c.args.size) (Release c.args.sh.now.memory c.args.at c.args.size) c.in-Err.trap c.release.new.self here.knows.is refl c.in-Err.ensures c.traps.ensures here.line
