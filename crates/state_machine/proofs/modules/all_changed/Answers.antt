use Rattle.std.proofs.Common.{◌++◌, ◌∷◌, [], take, refl, ap, ◌∙◌}
use Rattle.state_machine.specs.Modules.{changed_at}
use Rattle.state_machine.specs.Numbered.{flat_from}
use Rattle.state_machine.proofs.Turns.{next_turn}
use Rattle.state_machine.proofs.modules.all_changed.Goals as goal

pub loop-at-preserved : goal.loop-at-preserved
loop-at-preserved c =
    let at = c.loop-at.at in
    let fs = c.args.functions.now in
    let g = changed_at c.args.plans.now in
    c.in_ok-push.ensures.ok
    ∙ ap (λ gs. gs ++ c.in_ok-changed.field-0 ∷ []) c.loop-at.invariant
    ∙ ap (λ f. flat_from g 0 (take at fs) ++ f ∷ []) c.in_ok-changed.ensures
    ∙ next_turn g fs fs at c.index-functions-at.result refl c.loop-at-test.true c.index-functions-at.is
