use Rattle.std.proofs.Common.{◌++◌, length, take, ap, ◌∙◌, append_assoc}
use Rattle.state_machine.specs.Machine.{comparison}
use Rattle.state_machine.specs.Numbered.{flat_from}
use Rattle.state_machine.proofs.Turns.{next_turn}
use Rattle.state_machine.proofs.blocks.add_comparisons.Goals as goal

pub loop-n-preserved : goal.loop-n-preserved
loop-n-preserved c = λ all is.
    let m = c.args.machine.now in
    let n = c.loop-n.n in
    let w = c.wrapper-item.result in
    let g = comparison m.line all c.args.names.now m.thread (length m.wrappers) in
    c.in_ok-add_comparison.ensures all is
    ∙ ap (λ bs. bs ++ g n w) (c.loop-n.invariant all is)
    ∙ append_assoc c.args.blocks.now (flat_from g 0 (take n m.wrappers)) (g n w)
    ∙ ap (λ bs. c.args.blocks.now ++ bs) (next_turn g c.as_slice-wrapper-items.result.now m.wrappers n w c.as_slice-wrapper-items.ensures c.loop-n-test.true c.wrapper-item.is)
