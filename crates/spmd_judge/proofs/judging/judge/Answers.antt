use Rattle.std.proofs.Common.{subst}
use Rattle.ir_core.specs.declared.module.Module.{Module}
use Rattle.spmd_judge.specs.Verdicts.{AreReasonsBelow, reasons_seen}
use Rattle.spmd_judge.proofs.ReasonLaws.{no_reasons, are_reasons}
use Rattle.spmd_judge.proofs.judging.judge.Goals as goal

pub returns-then-is_empty : goal.returns-then-is_empty
returns-then-is_empty c =
    let rs = c.in_ok-reasons.reasons in
    let P : Module → Type 0 = λ m. AreReasonsBelow m c.args.kernel 7 (reasons_seen rs) in
    no_reasons c.args.m.now c.args.kernel rs (c.is_empty.ensures.0 c.if-is_empty.true) (subst P c.indexed.ensures.same c.in_ok-reasons.ensures)

pub returns-else-is_empty : goal.returns-else-is_empty
returns-else-is_empty c =
    let rs = c.in_ok-reasons.reasons in
    let P : Module → Type 0 = λ m. AreReasonsBelow m c.args.kernel 7 (reasons_seen rs) in
    (are_reasons c.args.m.now c.args.kernel (reasons_seen rs) (subst P c.indexed.ensures.same c.in_ok-reasons.ensures), λ e. let is = c.is_empty.ensures.1 e in let not = c.if-is_empty.false in let f : ⊥ = cc in f)
