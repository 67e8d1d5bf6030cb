use Rattle.interp.proofs.Happens.{no_work, has_work}
use Rattle.interp.proofs.work.ask.Goals as goal

pub returns-in-Err : goal.returns-in-Err
returns-in-Err c = λ x f rest here.
    no_work _ c.args.m.now c.args.here.thread c.args.here.line c.args.sh.now c.traps.new.sh c.args.s.now c.take_work.new.s c.in-Err.trap c.requires.thread c.in-Err.ensures c.traps.ensures here.line

pub returns-in_default : goal.returns-in_default
returns-in_default c = λ x f rest here. has_work c.args.m.now c.args.here.thread c.args.sh.now c.args.s.now c.take_work.new.s c.in_default.field-0 c.in_default.ensures
