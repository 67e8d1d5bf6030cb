use Rattle.std.proofs.Common.{◌≡◌, ℕ, subst, arith}
use Rattle.spmd_judge.specs.Verdicts.{AreReasonsBelow, reasons_seen}
use Rattle.spmd_judge.proofs.judging.reasons_of.Goals as goal

pub returns : goal.returns
returns c =
    let P : ℕ → Type 0 = λ n. AreReasonsBelow c.args.m.now c.args.kernel n (reasons_seen c.loop-rule.reasons) in
    let all : c.loop-rule.rule ≡ 7 = omega (arith, c.loop-rule-test.false, c.loop-rule.auto.rule-end) in
    subst P all c.loop-rule.invariant
