use Rattle.std.proofs.Common.{List, take, sym, subst}
use Rattle.std.specs.List.{flat_map}
use Rattle.ir_core.specs.Places.{Name}
use Rattle.ir_core.specs.declared.instructions.Inst.{Inst}
use Rattle.ir_core.specs.Typing.{targets_of}
use Rattle.ir_names.specs.Branches.{Grows}
use Rattle.ir_names.proofs.BranchLaws.{grows_more, targets_more}
use Rattle.ir_names.proofs.branches.add_insts.Goals as goal

pub loop-inst-preserved : goal.loop-inst-preserved
loop-inst-preserved c =
    let block = c.args.block.now in
    let insts = c.args.insts.now in
    let more = targets_more (λ (i : Inst). targets_of i.kind) insts c.loop-inst.inst-index c.inst-item.result c.inst-item.result c.loop-inst-test.true c.inst-item.is in
    subst (λ (ts : List Name). Grows block ts c.args.sources.now c.add_targets.new.sources) (sym more)
    (grows_more block (flat_map (λ (i : Inst). targets_of i.kind) (take c.loop-inst.inst-index insts)) _ c.args.sources.now c.loop-inst.sources c.add_targets.new.sources c.loop-inst.invariant c.in_ok-add_targets.ensures)
