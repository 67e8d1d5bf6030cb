use Rattle.std.proofs.Common.{◌+◌, ◌∷◌, [], ◌++◌, ap, ◌∙◌, append_assoc}
use Rattle.state_machine.specs.Machine.{check_or_none}
use Rattle.state_machine.proofs.Joins.{two_blocks}
use Rattle.state_machine.proofs.blocks.add_comparison.Goals as goal

pub returns : goal.returns
returns c = λ all is.
    c.in_ok-push-2.ensures.ok
    ∙ ap (λ bs. bs ++ c.in_ok-runs.field-0 ∷ []) c.in_ok-push.ensures.ok
    ∙ append_assoc c.args.blocks.now (c.in_ok-compares.field-0 ∷ []) (c.in_ok-runs.field-0 ∷ [])
    ∙ ap (λ bs. c.args.blocks.now ++ bs) (two_blocks _ all c.args.names.now _ _ c.args.n _ _ _ _ _ _ _ c.in_ok-compares.ensures c.in_ok-runs.ensures
    (c.in_ok-check.ensures all is) (c.in_ok-same.ensures all is) (c.in_ok-run.ensures all is)
    (c.in_ok-other.ensures all is ∙ ap (λ k. check_or_none all c.args.names.now k (c.args.n + 1)) c.len.ensures))
