use Rattle.std.proofs.Common.{sym, ap}
use Rattle.mem_model.specs.declared.memory.Cell.TheVariants.{Ptr as PtrCell}
use Rattle.mem_model.specs.Thread.{load_own}
use Rattle.captures.proofs.Blocks.{other_thread}
use Rattle.captures.proofs.words.load.Goals as goal

pub returns-then-spot-s : goal.returns-then-spot-s
returns-then-spot-s c = λ m is. ap (λ o. load_own o c.args.spot.offset PtrCell) (sym (other_thread m c.args.s.now c.args.spot.thread c.args.spot.number c.if-spot-s.true))
