use Rattle.std.proofs.Common.{◌+◌, ◌++◌, ◌∷◌, [], take, get_or, map, sym, ap, ◌∙◌}
use Rattle.ir_core.specs.declared.types.Scalar.{Scalar}
use Rattle.ir_core.specs.EntryPoints.{scalar_type}
use Rattle.state_machine.specs.Modules.{numbered_param}
use Rattle.state_machine.specs.Numbered.{flat_from}
use Rattle.state_machine.proofs.Turns.{one_more, through}
use Rattle.state_machine.proofs.modules.numbered_params.Goals as goal

pub loop-at-preserved : goal.loop-at-preserved
loop-at-preserved c =
    let at = c.loop-at.at in
    let ts = c.args.types.now in
    let none : Scalar = Scalar.Int 0 in
    c.in_ok-push.ensures.ok
    ∙ ap (λ ps. ps ++ c.in_ok-numbered_param.field-0 ∷ []) c.loop-at.invariant
    ∙ ap (λ p. flat_from numbered_param 0 (map scalar_type (take at ts)) ++ p ∷ []) c.in_ok-numbered_param.ensures
    ∙ ap (λ ps. ps ++ numbered_param at (scalar_type (get_or ts at none))) (through numbered_param scalar_type 0 (take at ts))
    ∙ sym (one_more (λ k s. numbered_param k (scalar_type s)) ts at none c.loop-at-test.true)
    ∙ sym (through numbered_param scalar_type 0 (take (at + 1) ts))
