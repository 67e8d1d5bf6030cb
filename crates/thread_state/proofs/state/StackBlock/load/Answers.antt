use Rattle.std.proofs.Common.{Some, sym, ap, ◌∙◌, subst}
use Rattle.std.specs.Prelude.{IfOk}
use Rattle.std.specs.Int.{w64}
use Rattle.std.proofs.lemmas.Int.{to_z-of_z}
use Rattle.mem_model.specs.Memory.{inside}
use Rattle.mem_model.specs.Answers.{IsOf}
use Rattle.mem_model.specs.Thread.{word_from}
use Rattle.mem_model.proofs.Fits.{own_fits}
use Rattle.thread_state.proofs.Stacks.{word_read}
use Rattle.thread_state.proofs.state.StackBlock.load.Goals as goal

pub returns-clause-value : goal.returns-clause-value
returns-clause-value c =
    let b = c.args.self.now in
    c.read_word.ensures
    ∙ word_read c.args.cell b.bytes.items c.deref.result.now c.in_ok-start.start c.cell_size-size.result c.place_in.result c.in_ok-start.was c.cell_size-size.ensures c.deref.ensures.value
    ∙ ap (word_from c.args.cell b.bytes.items) (c.place_in.ensures ∙ (λ i. inside ((c.len.ensures ∙ b.bytes.ok.0) i) (to_z-of_z w64 c.args.offset c.ranges.offset i) (c.cell_size-size.ensures i)))

pub returns-clause-fits : goal.returns-clause-fits
returns-clause-fits c = subst (λ r. IfOk r (IsOf c.args.cell)) (sym (returns-clause-value c)) (own_fits (Some c.args.self.now.bytes.items) c.args.offset c.args.cell)
