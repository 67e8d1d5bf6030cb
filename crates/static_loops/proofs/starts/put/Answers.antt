use Rattle.std.proofs.Common.{Ok, Err, List, refl, sym, subst}
use Rattle.mem_model.specs.declared.memory.Cell.TheVariants.{Int as IntCell}
use Rattle.mem_model.specs.declared.memory.Word.TheVariants.{Int}
use Rattle.mem_model.specs.declared.step.Trap.TheVariants.{NoBlock}
use Rattle.mem_model.specs.Values.{and_then}
use Rattle.mem_model.specs.Thread.{Frame, put_in, store_own}
use Rattle.thread_state.specs.Seen.{thread_seen}
use Rattle.static_loops.specs.Starts.{IsPut}
use Rattle.static_loops.proofs.Others.{other_thread}
use Rattle.static_loops.proofs.starts.put.Goals as goal

pub returns-then-spot-s-clause-put : goal.returns-then-spot-s-clause-put
returns-then-spot-s-clause-put c = λ m is.
    let s = c.args.s.now in
    let spot = c.args.spot in
    let fs : List Frame = (thread_seen m s).frames in
    subst (λ o. IsPut {U = Unit {0}} m s s (and_then (store_own o spot.offset (IntCell 32) (Int c.args.n)) (λ bytes. Ok (put_in (spot.thread, spot.number) bytes fs))) (Err NoBlock))
    (sym (other_thread m s spot.thread spot.number c.if-spot-s.true))
    (refl, (is, refl))
