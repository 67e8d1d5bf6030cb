use Rattle.std.proofs.Common.{Ok, ap, sym, refl, length, ◌∙◌, rules}
use Rattle.std.specs.Int.{w64}
use Rattle.std.proofs.lemmas.Int.{to_z-of_z}
use Rattle.mem_model.specs.declared.step.Trap.TheVariants.{NoBlock}
use Rattle.mem_model.specs.Words.{cell_size, word_bytes}
use Rattle.mem_model.specs.Memory.{inside}
use Rattle.mem_model.specs.Thread.{store_own, spliced}
use Rattle.thread_state.proofs.Held.{holds, same_block, own_at, own_none, stored, answers_ok, answers_err}
use Rattle.thread_state.proofs.state.ThreadState.store.Goals as goal

pub returns-in_default-clause-stored : goal.returns-in_default-clause-stored
returns-in_default-clause-stored c = λ m is.
    let s = c.args.self.now in
    let none = own_none m s is c.args.number c.as_slice.result.now c.as_slice.ensures.value (c.in_default.ensures.place 0 (search rules)) in
    answers_err m s c.args.number _ NoBlock _ (ap (λ o. store_own o c.args.offset c.args.cell c.args.word) none) refl

pub returns-in_err-start-clause-stored : goal.returns-in_err-start-clause-stored
returns-in_err-start-clause-stored c = λ m is.
    let s = c.args.self.now in
    let b = c.index.result.now in
    let h = holds s c.args.number c.in-Some.at c.as_slice.result.now c.as_slice.ensures.value (c.in-Some.ensures.place 0 (search rules)) b (search rules) (search rules) in
    let fails = sym (c.cell_place.ensures.place ∙ (λ i. inside (length b.bytes.items) (to_z-of_z w64 c.args.offset c.ranges.offset i) (cell_size c.args.cell))) ∙ c.in_err-start.was in
    answers_err m s c.args.number _ c.in_err-start.field-0.0 _
    (ap (λ o. store_own o c.args.offset c.args.cell c.args.word) (own_at m s is c.args.number c.in-Some.at b h) ∙ ap (spliced b.bytes.items (word_bytes c.args.cell c.args.word)) fails)
    (search rules)

pub returns-clause-stored : goal.returns-clause-stored
returns-clause-stored c = λ m is.
    let s = c.args.self.now in
    let b = c.index.result.now in
    let old = c.index_mut.result.now in
    let place = c.in-Some.ensures.place 0 (search rules) in
    let h = holds s c.args.number c.in-Some.at c.as_slice.result.now c.as_slice.ensures.value place b (search rules) (search rules) in
    let g = holds s c.args.number c.in-Some.at c.as_slice.result.now c.as_slice.ensures.value place old (search rules) (search rules) in
    let bytes = word_bytes c.args.cell c.args.word in
    let found = sym (c.cell_place.ensures.place ∙ (λ i. inside (length b.bytes.items) (to_z-of_z w64 c.args.offset c.ranges.offset i) (cell_size c.args.cell))) ∙ c.in_ok-start.was in
    let gives =
    ap (λ o. store_own o c.args.offset c.args.cell c.args.word) (own_at m s is c.args.number c.in-Some.at b h)
    ∙ ap (spliced b.bytes.items bytes) found
    ∙ ap (λ d. spliced d.bytes.items bytes (Ok c.in_ok-start.start)) (same_block s c.args.number c.in-Some.at b old h g)
    ∙ c.write.ensures.bytes in
    answers_ok m s _ c.args.number _ c.write.new.self.bytes.items gives (stored m s is c.args.number c.in-Some.at old c.write.new.self g c.write.ensures.number)
