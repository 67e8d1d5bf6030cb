use Rattle.std.proofs.Common.{◌≡◌, ℕ, List, Result, Ok, Err, ap, sym, length, ◌∙◌, rules}
use Rattle.std.specs.Int.{w64}
use Rattle.std.proofs.lemmas.Int.{to_z-of_z}
use Rattle.mem_model.specs.declared.memory.Byte.{Byte}
use Rattle.mem_model.specs.declared.step.Trap.{Trap}
use Rattle.mem_model.specs.Words.{cell_size, word_bytes}
use Rattle.mem_model.specs.Memory.{inside}
use Rattle.mem_model.specs.Thread.{store_own, spliced}
use Rattle.mem_model.specs.Answers.{only_trap}
use Rattle.thread_state.proofs.Held.{holds, own_at, own_none}
use Rattle.thread_state.proofs.state.ThreadState.reaches.Goals as goal

goes : (bytes new : List Byte) (r : Result ℕ Trap) (start : ℕ) → r ≡ Ok start → only_trap (spliced bytes new r) ≡ Ok tt
goes bytes new r start e = ap (λ x. only_trap (spliced bytes new x)) e

fails : (bytes new : List Byte) (r : Result ℕ Trap) (trap : Trap) → r ≡ Err trap → only_trap (spliced bytes new r) ≡ Err trap
fails bytes new r trap e = ap (λ x. only_trap (spliced bytes new x)) e

pub returns-in_default : goal.returns-in_default
returns-in_default c = λ m word is.
    sym (ap (λ o. only_trap (store_own o c.args.offset c.args.cell word)) (own_none m c.args.self.now is c.args.number c.as_slice.result.now c.as_slice.ensures.value (c.in_default.ensures.place 0 (search rules))))

pub returns-in_err-cell_place : goal.returns-in_err-cell_place
returns-in_err-cell_place c = λ m word is.
    let s = c.args.self.now in
    let b = c.index.result.now in
    let h = holds s c.args.number c.in-Some.at c.as_slice.result.now c.as_slice.ensures.value (c.in-Some.ensures.place 0 (search rules)) b (search rules) (search rules) in
    let inside_is = sym (c.cell_place.ensures.place ∙ (λ i. inside (length b.bytes.items) (to_z-of_z w64 c.args.offset c.ranges.offset i) (cell_size c.args.cell))) ∙ c.in_err-cell_place.was in
    let result_is : c.from_residual.result ≡ Err c.in_err-cell_place.field-0.0 = search rules in
    result_is ∙ sym (ap (λ o. only_trap (store_own o c.args.offset c.args.cell word)) (own_at m s is c.args.number c.in-Some.at b h) ∙ fails b.bytes.items (word_bytes c.args.cell word) _ _ inside_is)

pub returns : goal.returns
returns c = λ m word is.
    let s = c.args.self.now in
    let b = c.index.result.now in
    let h = holds s c.args.number c.in-Some.at c.as_slice.result.now c.as_slice.ensures.value (c.in-Some.ensures.place 0 (search rules)) b (search rules) (search rules) in
    let inside_is = sym (c.cell_place.ensures.place ∙ (λ i. inside (length b.bytes.items) (to_z-of_z w64 c.args.offset c.ranges.offset i) (cell_size c.args.cell))) ∙ c.in_ok-cell_place.was in
    sym (ap (λ o. only_trap (store_own o c.args.offset c.args.cell word)) (own_at m s is c.args.number c.in-Some.at b h) ∙ goes b.bytes.items (word_bytes c.args.cell word) _ _ inside_is)
