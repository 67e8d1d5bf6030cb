use Rattle.std.proofs.Common.{refl, sym, ◌∙◌, rules}
use Rattle.mem_model.specs.declared.memory.Word.TheVariants.{Int}
use Rattle.mem_model.specs.declared.memory.Cell.TheVariants.{Int as IntCell}
use Rattle.mem_model.specs.Values.{updated}
use Rattle.interp.proofs.Happens.{update_refused, update_unread, updated_trap}
use Rattle.interp.proofs.events.change_at.Goals as goal

pub returns-in_err-reaches : goal.returns-in_err-reaches
returns-in_err-reaches c =
    let change = c.args.change in
    updated_trap _ c.args.memory.now c.args.memory.now c.in_err-reaches.field-0.0 _
    (update_refused c.args.memory.now (IntCell change.width) (λ old. updated change.op change.width old change.number) c.args.at (Int 0) c.in_err-reaches.field-0.0 (sym c.in_err-reaches.was ∙ c.reaches.ensures (Int 0)))
    refl (search rules)

pub returns-in_err-old : goal.returns-in_err-old
returns-in_err-old c =
    let change = c.args.change in
    updated_trap _ c.args.memory.now c.args.memory.now c.in_err-old.field-0.0 _
    (update_unread c.args.memory.now (IntCell change.width) (λ old. updated change.op change.width old change.number) c.args.at (Int 0) c.in_err-old.field-0.0 (sym c.in_ok-reaches.was ∙ c.reaches.ensures (Int 0)) (sym c.read.ensures ∙ c.in_err-old.was))
    refl (search rules)
