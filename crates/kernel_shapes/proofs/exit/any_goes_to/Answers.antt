use Rattle.std.proofs.Common.{rules, tests, ◌∙◌}
use Rattle.std.proofs.lemmas.Iterator.{YieldsList-from_slice}
use Rattle.std.proofs.lemmas.Iterator.Search.{any_from_yields_List}
use Rattle.kernel_shapes.proofs.ExitLaws.{goes_by, among_cases}
use Rattle.kernel_shapes.proofs.exit.any_goes_to.Goals as goal

pub returns : goal.returns
returns c =
    let x = c.args.name.now in
    let cases = c.args.cases.now in
    any_from_yields_List (goes_by x) _ _ _ c.any.ensures.ran (YieldsList-from_slice cases (cc)) (λ y b q k. search (rules, tests)) ∙ among_cases x cases
