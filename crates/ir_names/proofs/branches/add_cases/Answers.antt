use Rattle.std.proofs.Common.{List, [], ◌∷◌, map, take, sym, subst}
use Rattle.ir_core.specs.Places.{Name}
use Rattle.ir_names.specs.Branches.{case_block, Grows}
use Rattle.ir_names.proofs.BranchLaws.{grows_more, names_more}
use Rattle.ir_names.proofs.branches.add_cases.Goals as goal

pub loop-case-preserved : goal.loop-case-preserved
loop-case-preserved c =
    let block = c.args.block.now in
    let cases = c.args.cases.now in
    let one = subst (λ (b : Name). Grows block (b ∷ []) c.loop-case.sources c.add.new.sources) c.as_slice.ensures c.in_ok-add.ensures in
    let more = names_more case_block cases c.loop-case.case-index c.case-item.result c.case-item.result c.loop-case-test.true c.case-item.is in
    subst (λ (ts : List Name). Grows block ts c.args.sources.now c.add.new.sources) (sym more)
    (grows_more block (map case_block (take c.loop-case.case-index cases)) _ c.args.sources.now c.loop-case.sources c.add.new.sources c.loop-case.invariant one)
