use Rattle.std.proofs.Common.{List, subst}
use Rattle.std.specs.List.{flat_map}
use Rattle.ir_core.specs.Places.{Name}
use Rattle.ir_core.specs.declared.instructions.Inst.{Inst}
use Rattle.ir_core.specs.Typing.{targets_of}
use Rattle.ir_names.specs.Branches.{Grows}
use Rattle.ir_names.proofs.BranchLaws.{sources_more}
use Rattle.ir_names.proofs.branches.sources_of.Goals as goal

pub loop-block-preserved : goal.loop-block-preserved
loop-block-preserved c =
    let old = c.loop-block.sources in
    let new = c.add_insts.new.sources in
    let block = c.block-item.result in
    let named = subst (λ (b : Name). Grows b (flat_map (λ (i : Inst). targets_of i.kind) c.as_slice-in-loop-block.result.now) old new) c.as_slice.ensures c.in_ok-add_insts.ensures in
    let one = subst (λ (is : List Inst). Grows block.name (flat_map (λ (i : Inst). targets_of i.kind) is) old new) c.as_slice-in-loop-block.ensures named in
    sources_more c.args.blocks.now c.loop-block.block-index block block old new c.loop-block-test.true c.block-item.is c.loop-block.invariant one
