use Rattle.std.proofs.Common.{List, sym, ap, ◌∙◌, rules}
use Rattle.std.specs.Int.{w64}
use Rattle.std.proofs.lemmas.Int.{to_z-of_z}
use Rattle.mem_model.specs.declared.memory.Cell.TheVariants.{Int as IntCell}
use Rattle.mem_model.specs.declared.memory.Word.TheVariants.{Int}
use Rattle.mem_model.specs.Answers.{only_trap}
use Rattle.mem_model.specs.Thread.{Frame, find_in, put_in, store_own}
use Rattle.thread_state.specs.Seen.{thread_seen}
use Rattle.thread_state.specs.Stored.{own_block}
use Rattle.static_loops.proofs.Others.{other_thread}
use Rattle.static_loops.proofs.Puts.{then_trap}
use Rattle.static_loops.proofs.starts.reaches.Goals as goal

pub returns-then-spot-s : goal.returns-then-spot-s
returns-then-spot-s c = λ m n is.
    let spot = c.args.spot in
    let fs : List Frame = (thread_seen m c.args.s.now).frames in
    sym (then_trap (store_own (find_in fs (spot.thread, spot.number)) spot.offset (IntCell 32) (Int n)) (λ bytes. put_in (spot.thread, spot.number) bytes fs)
    ∙ ap (λ o. only_trap (store_own o spot.offset (IntCell 32) (Int n))) (other_thread m c.args.s.now spot.thread spot.number c.if-spot-s.true))

pub returns : goal.returns
returns c = λ m n is.
    let s = c.args.s.now in
    let spot = c.args.spot in
    let fs : List Frame = (thread_seen m s).frames in
    c.reaches.ensures m (Int n) is
    ∙ ap (λ z. only_trap (store_own (own_block m s spot.number) z (IntCell 32) (Int n))) (to_z-of_z w64 spot.offset (search rules))
    ∙ ap (λ t. only_trap (store_own (find_in fs (t, spot.number)) spot.offset (IntCell 32) (Int n))) (sym c.if-spot-s.false)
    ∙ sym (then_trap (store_own (find_in fs (spot.thread, spot.number)) spot.offset (IntCell 32) (Int n)) (λ bytes. put_in (spot.thread, spot.number) bytes fs))
