use Rattle.std.proofs.Common.{Err, refl, ap}
use Rattle.mem_model.specs.declared.memory.Cell.TheVariants.{Int as IntCell}
use Rattle.mem_model.specs.declared.step.Trap.TheVariants.{NoBlock}
use Rattle.mem_model.specs.Thread.{load_own}
use Rattle.interp_local.proofs.Moved.{trapped, other_thread}
use Rattle.interp_local.proofs.steps.update_own.Goals as goal

pub returns-then-spot-s : goal.returns-then-spot-s
returns-then-spot-s c = λ m x f rest k.
    trapped m c.args.s.now _ _ NoBlock (Err NoBlock) k.is (ap (λ o. load_own o c.args.spot.offset (IntCell c.args.change.width)) (other_thread m c.args.s.now c.args.spot.thread c.args.spot.number f rest k.frames c.if-spot-s.true)) refl
