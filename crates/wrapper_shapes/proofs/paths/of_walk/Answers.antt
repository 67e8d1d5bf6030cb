use Rattle.std.proofs.Common.{ap, ◌∙◌}
use Rattle.std.specs.Option.{option_copied}
use Rattle.ir_core.specs.NameRefusals.{least}
use Rattle.wrapper_shapes.specs.Seen.{step_for, walk_seen}
use Rattle.wrapper_shapes.proofs.PathLaws.{fails_here}
use Rattle.wrapper_shapes.proofs.paths.of_walk.Goals as goal

pub returns-then-not-branch : goal.returns-then-not-branch
returns-then-not-branch c =
    let i = c.inst-item.result in
    c.rule.ensures
    ∙ ap least (fails_here (step_for (option_copied c.args.region)) c.args.insts.now c.loop-inst.inst-index i i c.loop-inst-test.true c.inst-item.is (walk_seen c.loop-inst.walk) (walk_seen c.step.new.self) c.in_ok-step.field-0 _ c.loop-inst.invariant c.if-not-branch.true c.in_ok-step.ensures)
