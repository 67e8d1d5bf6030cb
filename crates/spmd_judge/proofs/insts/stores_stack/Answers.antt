use Rattle.std.proofs.Common.{sym, ◌∙◌}
use Rattle.spmd_judge.specs.Judging.{place_of}
use Rattle.spmd_judge.proofs.InstLaws.{stores, stores_stack}
use Rattle.spmd_judge.proofs.insts.stores_stack.Goals as goal

pub returns-then-is_ptr : goal.returns-then-is_ptr
returns-then-is_ptr c =
    let m = c.args.facts.now in
    let p = place_of c.args.function c.args.block c.args.index in
    let i = c.args.inst.now in
    let s = c.in-Store in (
      λ e. stores m p i s.value s.at s.order s.align s.is (sym c.is_ptr.ensures ∙ c.if-is_ptr.true) (c.may_be_stack.ensures.0 e),
      λ h. c.may_be_stack.ensures.1 (stores_stack m p i s.value s.at s.order s.align s.is h),
    )
