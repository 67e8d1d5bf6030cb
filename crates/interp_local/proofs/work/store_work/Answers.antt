use Rattle.std.proofs.Common.{Err, refl}
use Rattle.mem_model.specs.declared.step.Trap.TheVariants.{NoBlock}
use Rattle.thread_state.specs.Seen.{thread_seen}
use Rattle.interp_local.proofs.Answered.{answered_trap, no_block}
use Rattle.interp_local.proofs.Moved.{other_thread}
use Rattle.interp_local.proofs.work.store_work.Goals as goal

pub returns-then-spot-s : goal.returns-then-spot-s
returns-then-spot-s c = λ m x f rest k.
    let s = c.args.s.now in
    let spot = c.in-Stack.spot in
    answered_trap m s _ NoBlock (Err NoBlock)
    (no_block (thread_seen m s) f rest x c.args.work c.args.at (spot.thread, spot.number) spot.offset c.in-Stack.ensures (other_thread m s spot.thread spot.number f rest k.frames c.if-spot-s.true))
    refl
