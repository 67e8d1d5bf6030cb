use Rattle.std.proofs.Common.{◌+◌, List, ℕ, sym, ap, subst, ◌∙◌}
use Rattle.register_numbers.proofs.Apart.{AreStartsBelow, starts_more}
use Rattle.register_numbers.proofs.numbering.Numbering.of.Goals as goal

pub loop-at-preserved : goal.loop-at-preserved
loop-at-preserved c =
    let m = c.args.indexed.now in
    let P : List ℕ → Type 0 = λ ss. AreStartsBelow m (c.loop-at.at + 1) ss c.in_ok-total.total in
    subst P (sym c.in_ok-push.ensures.ok) (starts_more m c.loop-at.at c.loop-at.starts c.loop-at.total c.in_ok-total.total c.loop-at.invariant (c.in_ok-total.ensures ∙ ap (λ k. c.loop-at.total + k) c.register_count.ensures))
