use Rattle.std.proofs.Common.{◌≡◌, ◌↔◌, List, Some, true, ap, length, refl, subst, slice_get, arith}
use Rattle.std.proofs.lemmas.Option.{slice_get_within}
use Rattle.ir_core.specs.declared.instructions.Inst.{Inst}
use Rattle.ir_core.specs.declared.module.Block.{Block}
use Rattle.shapes.specs.Insts.{block_insts}
use Rattle.call_graph.proofs.ListLaws.{read_at, within_joined}
use Rattle.effect_facts.specs.Marks.{OneHasEffect}
use Rattle.effect_facts.proofs.EffectLaws.{none_more, one_in_function}
use Rattle.effect_facts.proofs.insts.has_own_effect.Goals as goal

pub returns-then-one_has_effect : goal.returns-then-one_has_effect
returns-then-one_has_effect c =
    let m = c.args.pointers.now in
    let f = c.args.f.now in
    let n = c.loop-block.block-index in
    let b = c.block-item.result in
    let there : slice_get f.blocks n ≡ Some b = read_at c.as_slice-block-items.result.now f.blocks n b c.as_slice-block-items.ensures c.loop-block-test.true c.block-item.is in
    let P : List Inst → Type 0 = λ insts. OneHasEffect m c.args.at insts in
    (λ e. one_in_function m c.args.at f b n there (subst P c.as_slice.ensures (c.one_has_effect.ensures.0 c.if-one_has_effect.true)), λ h. refl)

pub loop-block-preserved : goal.loop-block-preserved
loop-block-preserved c =
    let m = c.args.pointers.now in
    let f = c.args.f.now in
    let n = c.loop-block.block-index in
    let b = c.block-item.result in
    let there : slice_get f.blocks n ≡ Some b = read_at c.as_slice-block-items.result.now f.blocks n b c.as_slice-block-items.ensures c.loop-block-test.true c.block-item.is in
    let P : List Inst → Type 0 = λ insts. (c.one_has_effect.result ≡ true) ↔ OneHasEffect m c.args.at insts in
    let found = subst P c.as_slice.ensures c.one_has_effect.ensures in
    none_more (λ (k : Block). OneHasEffect m c.args.at k.insts) f.blocks n b there
    (λ o. let is = found.1 o in let no = c.if-one_has_effect.false in let g : ⊥ = cc in g)
    c.loop-block.invariant

pub returns : goal.returns
returns c =
    let f = c.args.f.now in
    let size = ap length c.as_slice-block-items.ensures in (
      λ e. let g : ⊥ = cc in absurd g,
      λ h.
          let w = within_joined block_insts f.blocks h.0 (h.1, h.2) in
          let low = slice_get_within f.blocks w.1.0 w.0 w.1.1 in
          absurd (c.loop-block.invariant w.0 w.1.0 (omega (arith, low, size, c.loop-block-test.false)) w.1.1 (h.0, w.2.0, w.2.1, h.3)),
    )
