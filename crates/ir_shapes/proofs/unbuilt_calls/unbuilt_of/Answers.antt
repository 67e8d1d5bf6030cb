use Rattle.std.proofs.Common.{◌≡◌, ◌<◌, Some, None, find, sym, ap, ◌∙◌, length, get_or, subst}
use Rattle.std.specs.Option.{option_copied}
use Rattle.ir_core.specs.declared.module.Block.{Block}
use Rattle.shapes.specs.Insts.{block_insts}
use Rattle.shapes.specs.Refusals.{is_unbuilt}
use Rattle.ir_shapes.proofs.UnbuiltLaws.{in_part, not_in_part}
use Rattle.ir_shapes.proofs.unbuilt_calls.unbuilt_of.Goals as goal

pub returns-in-Some : goal.returns-in-Some
returns-in-Some c =
    let n = c.loop-block.block-index in
    let b = c.block-item.result in
    let here = ap (λ (d : Block). find is_unbuilt d.insts) (c.block-item.is ∙ ap (λ bs. get_or bs n b) c.as_slice-block-items.ensures) in
    in_part is_unbuilt block_insts c.args.f.now.blocks n b (subst (λ bs. n < length bs) c.as_slice-block-items.ensures c.loop-block-test.true) _ c.in-Some.inst.now c.loop-block.invariant
    (c.in-Some.ensures ∙ here)

pub loop-block-preserved : goal.loop-block-preserved
loop-block-preserved c =
    let n = c.loop-block.block-index in
    let b = c.block-item.result in
    let here = ap (λ (d : Block). find is_unbuilt d.insts) (c.block-item.is ∙ ap (λ bs. get_or bs n b) c.as_slice-block-items.ensures) in
    not_in_part is_unbuilt block_insts c.args.f.now.blocks n b (subst (λ bs. n < length bs) c.as_slice-block-items.ensures c.loop-block-test.true) _ c.loop-block.invariant
    (c.in_default.ensures ∙ here)
