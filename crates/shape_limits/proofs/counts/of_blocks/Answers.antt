use Rattle.std.proofs.Common.{◌≡◌, ◌<◌, length, get_or, sym, ap, ◌∙◌, subst}
use Rattle.ir_core.specs.NameRefusals.{least}
use Rattle.shapes.specs.Limits.{block_limit}
use Rattle.shape_limits.proofs.LimitLaws.{block_there}
use Rattle.shape_limits.proofs.counts.of_blocks.Goals as goal

pub returns-in-Some : goal.returns-in-Some
returns-in-Some c =
    let f = c.f-item.result in
    let blocks = c.as_slice-blocks.ensures in
    c.rule.ensures
    ∙ ap least (sym (block_there block_limit c.args.functions.now c.loop-f.f-index c.loop-f.left f f c.in-Some.block.now c.loop-f-test.true c.f-item.is c.loop-f.invariant.0 c.loop-f.invariant.1 (subst (λ bs. c.loop-f.left < length bs) blocks c.in-Some.ensures.lookup.3.0) (subst (λ bs. c.in-Some.block.now ≡ get_or bs c.loop-f.left c.in-Some.block.now) blocks c.in-Some.ensures.lookup.1)))
