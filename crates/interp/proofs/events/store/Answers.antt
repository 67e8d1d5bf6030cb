use Rattle.std.proofs.Common.{refl}
use Rattle.mem_model.specs.Memory.{Store}
use Rattle.mem_model.specs.Next.{Stores}
use Rattle.mem_model.specs.Thread.{given_of}
use Rattle.interp.proofs.Happens.{not_stored}
use Rattle.interp.proofs.events.store.Goals as goal

pub returns-in-Err : goal.returns-in-Err
returns-in-Err c = λ m x f rest here.
    not_stored m c.args.here.thread c.args.here.line c.args.sh.now c.traps.new.sh c.args.s.now (Stores c.args.at c.args.cell (given_of c.args.word)) (Store c.args.sh.now.memory c.args.at c.args.cell (given_of c.args.word)) c.in-Err.trap c.write.new.self here.knows.is refl c.in-Err.ensures c.traps.ensures here.line
