use Rattle.std.proofs.Common.{List, [], ◌∷◌, map, sym, ap, subst}
use Rattle.std.proofs.lemmas.Result.{on_ok_weaker}
use Rattle.ir_core.specs.Places.{Name}
use Rattle.ir_core.specs.declared.instructions.Case.{Case}
use Rattle.ir_core.specs.Typing.{targets_of}
use Rattle.ir_names.specs.Branches.{case_block, Grows}
use Rattle.ir_names.proofs.BranchLaws.{grows_more}
use Rattle.ir_names.proofs.branches.add_targets.Goals as goal

pub returns-in_ok-add-in-CondBr : goal.returns-in_ok-add-in-CondBr
returns-in_ok-add-in-CondBr c =
    let block = c.args.block.now in
    let before = c.args.sources.now in
    let between = c.add-in-CondBr.new.sources in
    let after = c.add-in-CondBr-2.new.sources in
    let one = subst (λ (b : Name). Grows block (b ∷ []) before between) c.as_slice-in-CondBr.ensures c.in_ok-add-in-CondBr.ensures in
    on_ok_weaker c.add-in-CondBr-2.result (λ second.
    let two = subst (λ (b : Name). Grows block (b ∷ []) between after) c.as_slice-in-CondBr-2.ensures second in
    subst (λ (ts : List Name). Grows block ts before after) (sym (ap targets_of c.in-CondBr.is))
    (grows_more block (c.in-CondBr.yes ∷ []) (c.in-CondBr.no ∷ []) before between after one two)
    ) c.add-in-CondBr-2.ensures

pub returns-in_ok-add-in-Switch : goal.returns-in_ok-add-in-Switch
returns-in_ok-add-in-Switch c =
    let block = c.args.block.now in
    let before = c.args.sources.now in
    let between = c.add-in-Switch.new.sources in
    let after = c.add_cases.new.sources in
    let one = subst (λ (b : Name). Grows block (b ∷ []) before between) c.as_slice-in-Switch.ensures c.in_ok-add-in-Switch.ensures in
    on_ok_weaker c.add_cases.result (λ second.
    let two = subst (λ (cases : List Case). Grows block (map case_block cases) between after) c.as_slice-in-Switch-2.ensures second in
    subst (λ (ts : List Name). Grows block ts before after) (sym (ap targets_of c.in-Switch.is))
    (grows_more block (c.in-Switch.other ∷ []) (map case_block c.in-Switch.cases) before between after one two)
    ) c.add_cases.ensures
