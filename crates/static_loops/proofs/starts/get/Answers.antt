use Rattle.std.proofs.Common.{sym, ap}
use Rattle.mem_model.specs.declared.memory.Cell.TheVariants.{Int as IntCell}
use Rattle.mem_model.specs.Values.{and_then}
use Rattle.mem_model.specs.Thread.{load_own}
use Rattle.mem_model.specs.Entries.{as_number}
use Rattle.static_loops.proofs.Others.{other_thread}
use Rattle.static_loops.proofs.starts.get.Goals as goal

pub returns-then-spot-s-clause-value : goal.returns-then-spot-s-clause-value
returns-then-spot-s-clause-value c = λ m is.
    sym (ap (λ o. and_then (load_own o c.args.spot.offset (IntCell 32)) as_number) (other_thread m c.args.s.now c.args.spot.thread c.args.spot.number c.if-spot-s.true))
