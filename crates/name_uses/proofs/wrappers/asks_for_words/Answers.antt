use Rattle.std.proofs.Common.{sym, ap, ◌∙◌, length, get_or, subst, ◌<◌}
use Rattle.std.specs.List.{flat_map}
use Rattle.ir_core.specs.declared.module.Block.{Block}
use Rattle.ir_core.specs.Wrappers.{is_in, get_shared_variables, block_callees, inst_callees}
use Rattle.name_uses.proofs.WrapperLaws.{is_among, not_among}
use Rattle.name_uses.proofs.wrappers.asks_for_words.Goals as goal

pub returns-then-any_asks : goal.returns-then-any_asks
returns-then-any_asks c =
    let n = c.loop-block.block-index in
    let b = c.block-item.result in
    let here = c.as_slice.ensures ∙ ap (λ (d : Block). d.insts) (c.block-item.is ∙ ap (λ bs. get_or bs n b) c.as_slice-block-items.ensures) in
    is_among block_callees c.args.f.now.blocks n b get_shared_variables (subst (λ bs. n < length bs) c.as_slice-block-items.ensures c.loop-block-test.true) _ c.loop-block.invariant
    (sym c.if-any_asks.true ∙ c.any_asks.ensures ∙ ap (λ is. is_in (flat_map inst_callees is) get_shared_variables) here)

pub loop-block-preserved : goal.loop-block-preserved
loop-block-preserved c =
    let n = c.loop-block.block-index in
    let b = c.block-item.result in
    let here = c.as_slice.ensures ∙ ap (λ (d : Block). d.insts) (c.block-item.is ∙ ap (λ bs. get_or bs n b) c.as_slice-block-items.ensures) in
    not_among block_callees c.args.f.now.blocks n b get_shared_variables (subst (λ bs. n < length bs) c.as_slice-block-items.ensures c.loop-block-test.true) _ c.loop-block.invariant
    (sym c.if-any_asks.false ∙ c.any_asks.ensures ∙ ap (λ is. is_in (flat_map inst_callees is) get_shared_variables) here)
