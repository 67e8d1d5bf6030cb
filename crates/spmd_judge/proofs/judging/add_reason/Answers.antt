use Rattle.std.proofs.Common.{ℕ, Option, subst}
use Rattle.spmd_rules.specs.Rules.{Breaks}
use Rattle.spmd_judge.specs.Lines.{IsLeastLine}
use Rattle.spmd_judge.proofs.ReasonLaws.{reason_kept, reason_added, is_none}
use Rattle.spmd_judge.proofs.judging.add_reason.Goals as goal

pub returns-in_ok-push : goal.returns-in_ok-push
returns-in_ok-push c =
    let P : Option ℕ → Type 0 = λ o. IsLeastLine (Breaks c.args._m.now c.args._kernel c.args.rule) o in
    reason_added c.args._m.now c.args._kernel c.args.rule c.in-Some.line c.args.reasons.now _ c.requires.below (subst P c.in-Some.is c.requires.line) c.in_ok-push.ensures.ok

pub returns-in_default : goal.returns-in_default
returns-in_default c =
    let P : Option ℕ → Type 0 = λ o. IsLeastLine (Breaks c.args._m.now c.args._kernel c.args.rule) o in
    reason_kept c.args._m.now c.args._kernel c.args.rule c.args.reasons.now c.requires.below (subst P (is_none c.args.line c.in_default.not-Some) c.requires.line)
