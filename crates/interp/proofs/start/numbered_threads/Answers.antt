use Rattle.interp.specs.Starts.{numbered_thread}
use Rattle.interp.proofs.Started.{numbered_more}
use Rattle.interp.proofs.start.numbered_threads.Goals as goal

pub loop-number-preserved : goal.loop-number-preserved
loop-number-preserved c =
    let m = c.args.m.now in
    numbered_more m (numbered_thread m c.args.l.now c.args.spmd) c.loop-number.number c.loop-number.threads.items c.add.new.threads.items c.in_ok-numbered_thread.field-0 c.loop-number.invariant c.in_ok-numbered_thread.ensures c.in_ok-add.ensures
