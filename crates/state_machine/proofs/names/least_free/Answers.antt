use Rattle.std.proofs.Common.{ap, sym, ◌∙◌, subst, ◌<◌}
use Rattle.ir_core.specs.Wrappers.{is_in}
use Rattle.state_machine.specs.Fresh.{numbered}
use Rattle.state_machine.proofs.Frees.{taken_on, free_at}
use Rattle.state_machine.proofs.names.least_free.Goals as goal

pub returns-then-not-is_taken : goal.returns-then-not-is_taken
returns-then-not-is_taken c = λ names is.
    let stem = c.args.stem.now in
    let low = subst (λ k. c.loop-n.n < k) is.1 c.loop-n-test.true in
    let name = c.as_slice.ensures ∙ c.in_ok-name.ensures in
    let free = ap (is_in names) (sym name) ∙ sym (c.is_taken.ensures names is) ∙ c.if-not-is_taken.true in
    c.in_ok-name.ensures ∙ ap (numbered stem) (sym (c.loop-n.invariant names is ∙ free_at names stem c.loop-n.n low free))

pub loop-n-preserved : goal.loop-n-preserved
loop-n-preserved c = λ names is.
    let stem = c.args.stem.now in
    let low = subst (λ k. c.loop-n.n < k) is.1 c.loop-n-test.true in
    let name = c.as_slice.ensures ∙ c.in_ok-name.ensures in
    let taken = ap (is_in names) (sym name) ∙ sym (c.is_taken.ensures names is) ∙ c.if-not-is_taken.false in
    c.loop-n.invariant names is ∙ taken_on names stem c.loop-n.n low taken
