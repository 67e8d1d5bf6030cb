use Rattle.spmd_judge.specs.Judging.{place_of}
use Rattle.spmd_judge.proofs.InstLaws.{accesses, accesses_stack}
use Rattle.spmd_judge.proofs.insts.accesses_stack.Goals as goal

pub returns-then-needs_guard : goal.returns-then-needs_guard
returns-then-needs_guard c =
    let m = c.args.facts.now in
    let p = place_of c.args.function c.args.block c.args.index in
    let i = c.args.inst.now in
    let at = c.in-Some.at.now in (
      λ e. accesses m p i at c.in-Some.ensures (c.needs_guard.ensures.0 c.if-needs_guard.true) (c.may_be_stack.ensures.0 e),
      λ h. c.may_be_stack.ensures.1 (accesses_stack m p i at c.in-Some.ensures h),
    )
