use Rattle.std.proofs.Common.{List, length, Option, Some, sym, ap, ◌∙◌, arith, slice_set}
use Rattle.mem_model.specs.declared.memory.Word.{Word}
use Rattle.interp_local.proofs.Entered.{put_more, put_past, put_length}
use Rattle.interp_local.proofs.calls.put_word.Goals as goal

pub returns-then-at-params : goal.returns-then-at-params
returns-then-at-params c = λ words first at_is are.
    let params = c.args.params in
    let size = ap (λ (vs : List (Option Word)). length vs) are ∙ put_length params words first in
    let low = c.if-at-params.true in
    let room = c.requires in
    c.set.ensures ∙ (λ i. slice_set (are i) (at_is i) (Some c.args.word)) ∙ put_more params words c.args.word first (omega arith) (omega arith)

pub returns-else-at-params : goal.returns-else-at-params
returns-else-at-params c = λ words first at_is are.
    let past = c.if-at-params.false in
    are ∙ sym (put_past c.args.params words c.args.word first (omega arith))
