use Rattle.std.proofs.Common.{◌∷◌, [], ◌++◌, ap, ◌∙◌}
use Rattle.state_machine.specs.Machine.{takes_part, check_or_none}
use Rattle.state_machine.proofs.Joins.{joined}
use Rattle.state_machine.proofs.blocks.add_machine.Goals as goal

pub returns : goal.returns
returns c = λ all is.
    let m = c.args.machine.now in
    let names = c.args.names.now in
    let first = c.in_ok-first.ensures all is ∙ ap (λ k. check_or_none all names k 0) c.len.ensures in
    joined c.args.blocks.now _ _ _ _ _ _ _ _ _ _ _ _
    (c.in_ok-push.ensures.ok ∙ ap (λ b. c.args.blocks.now ++ b ∷ []) c.in_ok-begins.ensures)
    (c.in_ok-push-2.ensures.ok ∙ ap (λ b. c.push.new.self ++ b ∷ []) (c.in_ok-takes_part.ensures ∙ ap (takes_part m.line names) first))
    (c.in_ok-add_comparisons.ensures all is)
    (c.in_ok-push-3.ensures.ok ∙ ap (λ b. c.add_comparisons.new.blocks ++ b ∷ []) c.in_ok-none.ensures)
    (c.in_ok-push-4.ensures.ok ∙ ap (λ b. c.push-3.new.self ++ b ∷ []) c.in_ok-end.ensures)
    (c.in_ok-push-5.ensures.ok ∙ ap (λ b. c.push-4.new.self ++ b ∷ []) c.in_ok-waits.ensures)
